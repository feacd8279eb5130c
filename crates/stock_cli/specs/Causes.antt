-- The causes of refusals, and what standard error is told.
use Rattle.std.specs.Prelude.{◌≡◌, ◌⊎◌, ℕ, ◌<◌, List, length, IfSome, Option, Some, None, Result, Ok, Err, String}
use Rattle.std.specs.declared.alloc.Global.{Global}
use Rattle.std.specs.Io.KnownBytes.{Appends}
use Rattle.report_text.specs.Messages.{fault_message}
use Rattle.report_text.specs.declared.faults.Fault.{Fault}
use Rattle.report_text.specs.declared.faults.Fault.TheVariants as fault
use Rattle.stock_edge.specs.Causes.{Rose, AppendsPrefix}
use Rattle.stock_edge.specs.HeldFiles.{Held, IsNotHeld}
use Rattle.stock_edge.specs.declared.FileFault.{FileFault}
use Rattle.stock_edge.specs.declared.FileFault.TheVariants as file
use Rattle.stock_cli.specs.Asks.{asked_of, IsComparison, IsInputOf}
use Rattle.stock_cli.specs.Endings.{item_ending}
use Rattle.stock_cli.specs.Inputs.{Content, Origin, contents, input_at, input_name}
use Rattle.stock_cli.specs.Outcome.{Ending, Plan, Planned, message_of}
use Rattle.stock_cli.specs.Subjects.{SubjectOf}
use Rattle.stock_cli.specs.Told.{told_of}
use Rattle.stock_cli.specs.Status.{IsDecided, status_of, word_fault}
use Rattle.stock_cli.specs.Words.{command_of}
use Rattle.stock_cli.specs.declared.asked.Asked.{Asked}
use Rattle.stock_cli.specs.declared.asked.Asked.TheVariants as asked
use Rattle.stock_cli.specs.declared.certificates.Unchecked.{Unchecked}
use Rattle.stock_cli.specs.declared.certificates.Unchecked.TheVariants as unchecked
use Rattle.stock_cli.specs.declared.words.Action.{Action}
use Rattle.stock_cli.specs.declared.words.Action.TheVariants as action
use Rattle.stock_cli.specs.declared.words.Command.{Command}
use Rattle.stock_cli.specs.declared.words.WordErr.{WordErr}
use Rattle.stock_cli.specs.declared.status.Status.{Status}
use Rattle.stock_cli.specs.declared.status.Status.TheVariants as status

-- ---- the words
abbrev pub read_fault : Result Command WordErr → Option Fault
read_fault (Ok command) = None
read_fault (Err e) = Some (word_fault e)

-- the fault of a run's words, if they have one
abbrev pub words_fault : List (String Global) → Option Fault
words_fault words = read_fault (command_of words)

-- the command checks a certificate
abbrev pub IsCheck : Result Command WordErr → Type 0
IsCheck (Ok command) = IsComparison (asked_of command)
IsCheck (Err e) = ⊥

-- the command has this input
abbrev pub TakesInput : Result Command WordErr → Option ℕ → Type 0
TakesInput (Ok command) place = IsInputOf (asked_of command) place
TakesInput (Err e) place = ⊥

-- ---- the inputs that a run comes to read
-- a check comes to its item's input, and to its certificate's where the item stands, as far as that is told
abbrev pub ComparesInput : (Result (List ℕ) Fault → Type 0) → Content → Origin → Origin → Origin → Type 0
ComparesInput stands content item cert = λ input. (input ≡ item) ⊎ ((input ≡ cert) × IfSome content stands)

-- the inputs that an action comes to
abbrev pub ActsOn : (Result (List ℕ) Fault → Type 0) → Option (List ℕ) → Option Held → List (String Global) → Action → Origin → Type 0
ActsOn stands left held words (action.Solve place) = λ input. input ≡ input_at words place
ActsOn stands left held words (action.Certify place) = λ input. input ≡ input_at words place
ActsOn stands left held words (action.Check place cert) = ComparesInput stands (contents left held words place) (input_at words place) (input_at words cert)

abbrev pub ComesTo : Option (List ℕ) → Option Held → List (String Global) → Asked → Origin → Type 0
ComesTo left held words (asked.Action of a) = ActsOn (told_of of).Stands left held words a
ComesTo left held words (asked.Kind question place) = λ input. input ≡ input_at words place
ComesTo left held words _ = λ input. ⊥

-- the run of these words comes to read this input
abbrev pub ReadsInput : Option (List ℕ) → Option Held → List (String Global) → Result Command WordErr → Origin → Type 0
ReadsInput left held words (Ok command) = ComesTo left held words (asked_of command)
ReadsInput left held words (Err e) = λ input. ⊥

-- the run comes to read no file
pub record ReadsNoFile (reads : Origin → Type 0) : Type 0 where
  pub none : (name : List ℕ) → reads (Some name) → ⊥

-- the counts of faults of standard input and of the files, before a call and after it
pub record Counts : Type 0 where
  pub input_before : ℕ
  pub input_now : ℕ
  pub files_before : ℕ
  pub files_now : ℕ

abbrev pub counts_of : ℕ → ℕ → ℕ → ℕ → Counts
counts_of input_before input_now files_before files_now =
    record { input_before = input_before; input_now = input_now; files_before = files_before; files_now = files_now }

-- the count of the object that has an input rose
abbrev pub RoseAt : Counts → Origin → Type 0
RoseAt counts None = Rose counts.input_before counts.input_now
RoseAt counts (Some name) = Rose counts.files_before counts.files_now

-- an input that the run comes to read failed
abbrev pub FailsOne : Counts → (Origin → Type 0) → Type 0
FailsOne counts reads = (input : Origin) × reads input × RoseAt counts input

-- the input has this name, and its object failed
abbrev pub FailedAt : Counts → Origin → List ℕ → Type 0
FailedAt counts input name = (name ≡ input_name input) × RoseAt counts input

-- an input that the run comes to read has this name, and its object failed
pub record IsUnread (counts : Counts) (reads : Origin → Type 0) (name : List ℕ) : Type 0 where
  pub input : Origin
  pub read : reads input
  pub failed : FailedAt counts input name

-- ---- refusals, by the inputs of a name that may not have been read
-- the content is longer than an instance may be
abbrev pub IsTooLong : Result (List ℕ) Fault → Type 0
IsTooLong content = (bytes : List ℕ) × (content ≡ Ok bytes) × (1048576 < length bytes)

-- why an input wasn't read: its object failed, memory was refused, it is too long, or there is no such file
abbrev pub NotRead : (List ℕ → Type 0) → Content → Fault → Type 0
NotRead unread content (fault.ReadFault name) = unread name
NotRead unread content fault.Memory = Unit {0}
NotRead unread content fault.TooLong = IfSome content IsTooLong
NotRead unread content (fault.MissingFile name) = IfSome content (λ found. found ≡ Err (fault.MissingFile name))
NotRead unread content _ = ⊥

-- there is no such file
abbrev pub IsMissing : Option Held → Origin → Type 0
IsMissing held None = ⊥
IsMissing held (Some name) = IsNotHeld held name

-- why there is no next piece of a certificate: there is no such file, or its object failed
abbrev pub NoPiece : Type 0 → Type 0 → Unchecked → Type 0
NoPiece rose missing unchecked.Missing = missing
NoPiece rose missing unchecked.Failed = rose
NoPiece rose missing unchecked.Endless = ⊥

-- why there is no verdict on a certificate of this name: there is no such file, its object failed, or it is too long to be counted
abbrev pub NotChecked : Type 0 → List ℕ → Content → Unchecked → Type 0
NotChecked rose name content unchecked.Missing = IfSome content (λ found. found ≡ Err (fault.MissingFile name))
NotChecked rose name content unchecked.Failed = rose
NotChecked rose name content unchecked.Endless = Unit {0}

-- why a read of a file gave no piece
abbrev pub file_unchecked : FileFault → Unchecked
file_unchecked file.Missing = unchecked.Missing
file_unchecked file.Failed = unchecked.Failed

-- why an input gives no item: its object failed, memory was refused, or it is how the run ends, whatever is asked of the item
abbrev pub GivesNone : {Item Cert : Type 0} → SubjectOf Item Cert → (List ℕ → Type 0) → Content → Fault → Type 0
GivesNone subject unread content (fault.ReadFault name) = unread name
GivesNone subject unread content fault.Memory = Unit {0}
GivesNone subject unread content fault.WriteFault = ⊥
GivesNone {Item} {Cert} subject unread content f = (answer : Item → Planned) → IfSome (item_ending subject answer content) (λ end. end ≡ Err f)

-- why a question has no answer: memory was refused, or it has none for this kind
abbrev pub HasNoAnswer : Result Plan Fault → Fault → Type 0
HasNoAnswer outcome (fault.NotThisCommand kind) = outcome ≡ Err (fault.NotThisCommand kind)
HasNoAnswer outcome fault.Memory = Unit {0}
HasNoAnswer outcome _ = ⊥

-- a refusal before anything is written has its cause: an input failed, memory was refused, or it is how the run ends
abbrev pub IsRefused : {T : Type 0} → (List ℕ → Type 0) → Option (Result T Fault) → Fault → Type 0
IsRefused unread ending (fault.ReadFault name) = unread name
IsRefused unread ending fault.Memory = Unit {0}
IsRefused unread ending fault.WriteFault = ⊥
IsRefused unread ending f = IfSome ending (λ end. end ≡ Err f)

-- what a refusal puts on standard error: the message of its fault, or of want of memory where there is none for that message; it is whole where no fault came and memory wasn't wanting
pub record IsToldOf (refusal : Fault) (given : Status) (before now : ℕ) (old new : Option (List ℕ)) : Type 0 where
  pub told : Fault
  pub of : (told ≡ refusal) ⊎ (told ≡ fault.Memory)
  pub status_is : given ≡ status_of told
  pub part : AppendsPrefix old new (fault_message told)
  pub whole : (given ≡ status.Memory) ⊎ (Appends old new (fault_message told) ⊎ Rose before now)

-- the fault that a run's message tells is the cause of its status: where that is decided by the words and the inputs, it is how the run ends; a read fault is of an input that the run comes to read and whose object failed
abbrev pub IsCause : Counts → Ending → (Origin → Type 0) → Status → Fault → Type 0
IsCause counts ending reads given (fault.ReadFault name) = IsUnread counts reads name
IsCause counts ending reads given f = IsDecided given → IfSome ending (λ end. message_of end ≡ Some f)

-- what a run that isn't done puts on standard error: the message of a fault that has the run's status and is its cause; it is whole where no fault came and memory wasn't wanting
pub record IsTold (counts : Counts) (ending : Ending) (reads : Origin → Type 0) (given : Status) (before now : ℕ) (old new : Option (List ℕ)) : Type 0 where
  pub refusal : Fault
  pub status_is : given ≡ status_of refusal
  pub cause : IsCause counts ending reads given refusal
  pub part : AppendsPrefix old new (fault_message refusal)
  pub whole : (given ≡ status.Memory) ⊎ (Appends old new (fault_message refusal) ⊎ Rose before now)

-- a run that ends so has a message
abbrev pub HasMessage : Status → Type 0
HasMessage status.Done = ⊥
HasMessage status.Rejected = ⊥
HasMessage _ = Unit {0}
