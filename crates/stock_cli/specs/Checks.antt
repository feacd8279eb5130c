-- What a check of the certificate of an input says.
use Rattle.std.specs.Prelude.{◌≡◌, ℕ, ◌+◌, ◌<◌, ◌≤◌, List, ◌++◌, length, take, IfSome, Option, Some, None, Result, Ok, false}
use Rattle.std.specs.Io.KnownBytes.{Consumes, IsAtEnd}
use Rattle.line_text.specs.Breaches.{RuledGrammar, lines_breach}
use Rattle.line_text.specs.Reading.{lines_text}
use Rattle.line_text.specs.TextBreaches.{text_breach}
use Rattle.line_check.specs.Verdicts.{is_rejection, verdict_of}
use Rattle.line_check.specs.declared.verdict.Verdict.{Verdict}
use Rattle.line_check.specs.declared.verdict.Verdict.TheVariants.{Going, Accepted, Rejected}
use Rattle.report_text.specs.Verdicts.{accepted_text, rejection_text}
use Rattle.report_text.specs.declared.faults.Fault.{Fault}
use Rattle.stock_edge.specs.HeldFiles.{Held, GivesHeld}
use Rattle.stock_edge.specs.KnownFiles.{BeginsFile}
use Rattle.stock_cli.specs.Inputs.{Content, Origin}
use Rattle.stock_cli.specs.Outcome.{Output, printed, rejecting}
use Rattle.stock_cli.specs.Subjects.{SubjectOf, SaysItem, IsCertificate}

-- the verdict is on a whole text
abbrev pub IsFinal : Verdict → Type 0
IsFinal Going = ⊥
IsFinal _ = Unit {0}

-- what a check with this verdict puts on standard output, and the status with it
abbrev pub verdict_told : Verdict → Output
verdict_told (Rejected line rule) = rejecting (rejection_text line rule)
verdict_told _ = printed accepted_text

-- the content is a text, and this is the verdict on it under these rules; of what is accepted this claim holds, whoever wrote it
pub record IsVerdictOf (G : RuledGrammar) (claim : List ℕ → Type 0) (verdict : Verdict) (found : Result (List ℕ) Fault) : Type 0 where
  pub text : List ℕ
  pub told : found ≡ Ok text
  pub verdict_is : verdict ≡ verdict_of (text_breach G text)
  pub accepted : verdict ≡ Accepted → claim text

-- a final verdict, that on the content where it is told
pub record IsVerdictOn (G : RuledGrammar) (claim : List ℕ → Type 0) (content : Content) (verdict : Verdict) : Type 0 where
  pub final : IsFinal verdict
  pub exact : IfSome content (IsVerdictOf G claim verdict)

-- the verdict on the certificate of an item; what is accepted names a policy than which none costs less
abbrev pub IsItemVerdict : {Item Cert : Type 0} → SubjectOf Item Cert → Item → Content → Verdict → Type 0
IsItemVerdict subject item content verdict = IsVerdictOn (subject.rules item) (IsCertificate subject item) content verdict

-- the bytes are those of lines that all pass, and at most so many more
pub record PassesUpTo (G : RuledGrammar) (bytes : List ℕ) (most : ℕ) : Type 0 where
  pub lines : List G.Line
  pub pass : lines_breach G lines ≡ None
  pub behind : List ℕ
  pub text_is : bytes ≡ lines_text G.grammar lines ++ behind
  pub within : length behind ≤ most

-- of the known bytes, where they are told, those of lines that all pass were taken, and at most so many more
pub record TakesPast (G : RuledGrammar) (old new : Option (List ℕ)) (most : ℕ) : Type 0 where
  pub bytes : List ℕ
  pub taken : Consumes old new bytes
  pub passes : PassesUpTo G bytes most

-- how far a check reads: a line that comes to the limit of its grammar is rejected, and a piece has 4,096 bytes
abbrev pub Reaches : RuledGrammar → Option (List ℕ) → Option (List ℕ) → Type 0
Reaches G old new = TakesPast G old new (G.grammar.limit + 4096)

-- a check of a certificate on standard input reads so far, for the item of the other input, which is the one that its content says where that is told
pub record ReachesFor {Item Cert : Type 0} (subject : SubjectOf Item Cert) (content : Content) (old new : Option (List ℕ)) : Type 0 where
  pub item : Item
  pub said : IfSome content (λ found. SaysItem subject found item)
  pub reaches : Reaches (subject.rules item) old new

-- ---- the pieces of a certificate
-- what takes the pieces of a text and answers the verdict on it
pub record TextCheckOf (Check : Type 0) : Type 1 where
  -- what it checks a text for
  pub Of : Type 0
  pub rules : Of → RuledGrammar
  -- what is claimed of a text that it accepts
  pub Claims : Of → List ℕ → Type 0
  -- the check stands for these bytes of a text
  pub StandsFor : Of → Check → List ℕ → Type 0
  -- its last answer
  pub last : Check → Verdict
  -- where it rejects none of them they are lines that all pass, and less than a line
  pub reading : (of : Of) (check : Check) (bytes : List ℕ) → StandsFor of check bytes → is_rejection (last check) ≡ false →
      PassesUpTo (rules of) bytes (rules of).grammar.limit

-- the next piece of an input, of which so many bytes came before; none only at its end
abbrev pub GivesNext : Origin → Option (List ℕ) → Option (List ℕ) → Option Held → ℕ → List ℕ → ℕ → Type 0
GivesNext None old new held before buf count = Consumes old new (take count buf) × (count ≡ 0 → 0 < length buf → IsAtEnd new)
GivesNext (Some name) old new held before buf count = GivesHeld held name before buf count

-- the check stands for bytes that were taken from the front of those that standard input held; lines that all pass, and fewer bytes than a line may have
pub record HasTaken {Check : Type 0} (C : TextCheckOf Check) (of : C.Of) (check : Check) (old now : Option (List ℕ)) : Type 0 where
  pub bytes : List ℕ
  pub stands : C.StandsFor of check bytes
  pub taken : Consumes old now bytes
  pub passes : PassesUpTo (C.rules of) bytes (C.rules of).grammar.limit

-- the check stands for the first bytes of a file, so many
pub record HasRead {Check : Type 0} (C : TextCheckOf Check) (of : C.Of) (check : Check) (held : Option Held) (name : List ℕ) (count : ℕ) : Type 0 where
  pub bytes : List ℕ
  pub stands : C.StandsFor of check bytes
  pub begins : BeginsFile held name bytes
  pub counted : length bytes ≡ count

-- the check stands for the bytes of an input that came, so many of them
abbrev pub HasCome : {Check : Type 0} → (C : TextCheckOf Check) → C.Of → Check → Origin → Option (List ℕ) → Option (List ℕ) → Option Held → ℕ → Type 0
HasCome C of check None old now held count = HasTaken C of check old now
HasCome C of check (Some name) old now held count = HasRead C of check held name count
