-- What each status means.
use Rattle.std.specs.Prelude.{ℕ}
use Rattle.json_forms.specs.declared.fault.InstanceFault.{InstanceFault}
use Rattle.json_forms.specs.declared.fault.InstanceFault.TheVariants as instance_fault
use Rattle.report_text.specs.declared.faults.Fault.{Fault}
use Rattle.report_text.specs.declared.faults.Fault.TheVariants as fault
use Rattle.stock_cli.specs.declared.words.WordErr.{WordErr}
use Rattle.stock_cli.specs.declared.words.WordErr.TheVariants as words
use Rattle.stock_cli.specs.declared.status.Status.{Status}
use Rattle.stock_cli.specs.declared.status.Status.TheVariants.{Done, Rejected, Words, Input, ReadFault, WriteFault, Width, Memory, House}

abbrev pub code_of : Status → ℕ
code_of Done = 0
code_of Rejected = 1
code_of Words = 2
code_of Input = 3
code_of ReadFault = 4
code_of WriteFault = 5
code_of Width = 6
code_of Memory = 7
code_of House = 8

-- the words and the input decide this status; the three others are those of faults and of memory
abbrev pub IsDecided : Status → Type 0
IsDecided ReadFault = ⊥
IsDecided WriteFault = ⊥
IsDecided Memory = ⊥
IsDecided _ = Unit {0}

-- a run that ends so wrote nothing on standard output
abbrev pub WritesNothing : Status → Type 0
WritesNothing Words = Unit {0}
WritesNothing Input = Unit {0}
WritesNothing ReadFault = Unit {0}
WritesNothing Width = Unit {0}
WritesNothing _ = ⊥

-- the status of a run that is refused for an instance's fault
abbrev pub instance_status : InstanceFault → Status
instance_status instance_fault.Width = Width
instance_status _ = Input

-- the status of a run that is refused for a fault
abbrev pub status_of : Fault → Status
status_of (fault.MissingFile name) = Input
status_of fault.TooLong = Input
status_of (fault.Instance f) = instance_status f
status_of (fault.NotThisCommand kind) = Input
status_of (fault.ReadFault name) = ReadFault
status_of fault.WriteFault = WriteFault
status_of fault.Memory = Memory
status_of (fault.NoRule index) = House
status_of (fault.RuleShared index) = House
status_of (fault.RuleCap index) = House
status_of (fault.RuleOver over) = House
status_of _ = Words

-- the fault of words that name no command
abbrev pub word_fault : WordErr → Fault
word_fault words.NoCommand = fault.NoCommand
word_fault words.UnknownCommand = fault.UnknownCommand
word_fault words.UnknownAction = fault.UnknownAction
word_fault (words.TooFew word) = fault.TooFew word
word_fault (words.TooMany word) = fault.TooMany word
word_fault (words.EmptyName word) = fault.EmptyName word
word_fault (words.NoOption word) = fault.NoOption word
word_fault (words.BadNumber word) = fault.BadNumber word
word_fault (words.TwoInputs word) = fault.TwoInputs word

-- the fault is not one of the words
abbrev pub IsOfInputs : Fault → Type 0
IsOfInputs (fault.MissingFile name) = Unit {0}
IsOfInputs fault.TooLong = Unit {0}
IsOfInputs (fault.Instance f) = Unit {0}
IsOfInputs (fault.NotThisCommand kind) = Unit {0}
IsOfInputs (fault.ReadFault name) = Unit {0}
IsOfInputs fault.WriteFault = Unit {0}
IsOfInputs fault.Memory = Unit {0}
IsOfInputs _ = ⊥

-- the fault is one of what was to be written
abbrev pub IsOfWriting : Fault → Type 0
IsOfWriting fault.WriteFault = Unit {0}
IsOfWriting fault.Memory = Unit {0}
IsOfWriting (fault.NoRule index) = Unit {0}
IsOfWriting (fault.RuleShared index) = Unit {0}
IsOfWriting (fault.RuleCap index) = Unit {0}
IsOfWriting (fault.RuleOver over) = Unit {0}
IsOfWriting _ = ⊥
