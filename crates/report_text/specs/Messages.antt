-- What standard error says of each fault.
use Rattle.std.specs.Prelude.{ℕ, List, [], ◌++◌, codes, decimal}
use Rattle.demand_law.specs.declared.law.LawFault.{LawFault}
use Rattle.demand_law.specs.declared.law.LawFault.TheVariants as law
use Rattle.decision_model.specs.Kind.{kind_word}
use Rattle.json_forms.specs.declared.fault.Key.{Key}
use Rattle.json_forms.specs.declared.fault.KeyList.{KeyList}
use Rattle.json_forms.specs.declared.fault.KeyList.TheVariants.{Top, Nodes, Pauses}
use Rattle.json_forms.specs.declared.fault.InstanceFault.{InstanceFault}
use Rattle.json_forms.specs.declared.fault.InstanceFault.TheVariants as instance
use Rattle.json_forms.specs.declared.fault.InstanceErr.{InstanceErr}
use Rattle.json_forms.specs.declared.fault.InstanceErr.TheVariants as error
use Rattle.report_text.specs.declared.faults.Fault.{Fault}
use Rattle.report_text.specs.declared.faults.Fault.TheVariants.{NoCommand, UnknownCommand, UnknownAction, TooFew, TooMany, EmptyName, NoOption, BadNumber, TwoInputs, MissingFile, TooLong, Instance, NotThisCommand, ReadFault, WriteFault, NoRule, RuleShared, RuleCap, RuleOver, Memory}

-- the fault of a text that gives no instance
abbrev pub instance_fault : InstanceErr → Fault
instance_fault (error.Bad fault) = Instance fault
instance_fault error.Memory = Memory

-- the place of a key's object, which the instance itself has none of
abbrev pub place_words : KeyList → ℕ → List ℕ
place_words Top item = []
place_words Nodes item = codes "nodes[" ++ decimal item ++ codes "]."
place_words Pauses item = codes "pauses[" ++ decimal item ++ codes "]."

abbrev pub key_words : Key → List ℕ
key_words key = place_words key.list key.item ++ key.name

-- why numbers make no law
abbrev pub law_words : LawFault → List ℕ
law_words law.Empty = codes "no points"
law_words (law.Repeated demand) = codes "demand " ++ decimal demand ++ codes " twice"
law_words (law.ZeroWeight demand) = codes "demand " ++ decimal demand ++ codes " has weight 0"
law_words law.TooLarge = codes "too large"
law_words law.Disordered = codes "out of order"
law_words law.NotMultiple = codes "does not divide the total"

-- why a text says no instance
abbrev pub instance_words : InstanceFault → List ℕ
instance_words instance.NotJson = codes "not JSON"
instance_words instance.UnknownKind = codes "unknown kind"
instance_words (instance.Missing key) = key_words key ++ codes ": missing"
instance_words (instance.UnknownKey key) = key_words key ++ codes ": unknown key"
instance_words (instance.WrongType key) = key_words key ++ codes ": wrong type"
instance_words (instance.OutOfRange key) = key_words key ++ codes ": out of range"
instance_words (instance.LengthMismatch key) = key_words key ++ codes ": wrong length"
instance_words (instance.BadLaw key fault) = key_words key ++ codes ": law: " ++ law_words fault
instance_words (instance.Speculative period) = codes "period " ++ decimal period ++ codes ": speculative cost"
instance_words instance.NoDemand = codes "no demand"
instance_words instance.NotUnitDemand = codes "demand is not 0 or 1"
instance_words instance.Grid = codes "grid too large"
instance_words (instance.NetworkShape node) = codes "node " ++ decimal node ++ codes ": network shape"
instance_words (instance.Overlap pause) = codes "pause " ++ decimal pause ++ codes ": overlap"
instance_words (instance.Load node) = codes "node " ++ decimal node ++ codes ": load"
instance_words instance.Width = codes "too wide"

-- what is wrong with a word, from 1
abbrev pub word_words : ℕ → List ℕ → List ℕ
word_words word wrong = codes "word " ++ decimal word ++ wrong

-- what is wrong with the house rule of an index
abbrev pub rule_words : ℕ → List ℕ → List ℕ
rule_words index wrong = codes "house rule " ++ decimal index ++ wrong

-- what the message says behind the program's name
abbrev pub fault_words : Fault → List ℕ
fault_words NoCommand = codes "no command"
fault_words UnknownCommand = word_words 1 (codes ": unknown command")
fault_words UnknownAction = word_words 2 (codes ": unknown action")
fault_words (TooFew word) = word_words word (codes ": missing")
fault_words (TooMany word) = word_words word (codes ": not expected")
fault_words (EmptyName word) = word_words word (codes ": empty name")
fault_words (NoOption word) = word_words word (codes ": no option is known")
fault_words (BadNumber word) = word_words word (codes ": not a number from 0 to 999999")
fault_words (TwoInputs word) = word_words word (codes ": standard input is already used")
fault_words (MissingFile name) = codes "file not found: " ++ name
fault_words TooLong = codes "instance longer than 1048576 bytes"
fault_words (Instance fault) = codes "instance: " ++ instance_words fault
fault_words (NotThisCommand kind) = codes "this command does not take kind " ++ kind_word kind
fault_words (ReadFault name) = codes "cannot read " ++ name
fault_words WriteFault = codes "cannot write"
fault_words (NoRule index) = rule_words index (codes ": not given")
fault_words (RuleShared index) = rule_words index (codes ": named twice")
fault_words (RuleCap index) = rule_words index (codes ": its cap is larger than the stated cap")
fault_words (RuleOver over) = codes "node " ++ decimal over.node ++ codes ": house rule answered " ++ decimal over.answer ++ codes ", its cap is " ++ decimal over.cap
fault_words Memory = codes "out of memory"

-- the whole line
abbrev pub fault_message : Fault → List ℕ
fault_message fault = codes "stock: " ++ fault_words fault ++ codes "\n"
