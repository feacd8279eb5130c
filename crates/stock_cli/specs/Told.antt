-- What commands are about: the one dispatch by part.
use Rattle.std.specs.Prelude.{ℕ, List, Option, Result}
use Rattle.report_text.specs.declared.faults.Fault.{Fault}
use Rattle.report_text.specs.declared.faults.Fault.TheVariants as fault
use Rattle.stock_cli.specs.BracketSubject.{bracket_subject}
use Rattle.stock_cli.specs.Checks.{ReachesFor}
use Rattle.stock_cli.specs.Claims.{ActionClaims}
use Rattle.stock_cli.specs.Endings.{action_ending}
use Rattle.stock_cli.specs.Inputs.{Content}
use Rattle.stock_cli.specs.KindSubject.{kind_subject}
use Rattle.stock_cli.specs.Outcome.{Planned, refused}
use Rattle.stock_cli.specs.Subjects.{SubjectOf, Stands}
use Rattle.stock_cli.specs.declared.asked.About.{About}
use Rattle.stock_cli.specs.declared.asked.About.TheVariants as about
use Rattle.stock_cli.specs.declared.names.Part.{Part}
use Rattle.stock_cli.specs.declared.names.Part.TheVariants as part
use Rattle.stock_cli.specs.declared.words.Action.{Action}

-- what is told of a subject without its types
pub record Told : Type 1 where
  -- how an action ends, by what the inputs hold
  pub ending : (Option ℕ → Content) → Action → Planned
  -- what the text that answers it claims
  pub Claims : (Option ℕ → Content) → Action → List ℕ → Type 0
  -- the content is that of an item that is checked
  pub Stands : Result (List ℕ) Fault → Type 0
  -- how far standard input is read for a certificate of the item that a content says
  pub Reaches : Content → Option (List ℕ) → Option (List ℕ) → Type 0

abbrev pub told_by : {Item Cert : Type 0} → SubjectOf Item Cert → Told
told_by subject = record { ending = action_ending subject; Claims = ActionClaims subject; Stands = Stands subject; Reaches = ReachesFor subject }

-- a part that isn't built is no command
abbrev pub unbuilt : Told
unbuilt = record {
  ending = λ holds action. refused fault.UnknownCommand;
  Claims = λ holds action text. Unit {0};
  Stands = λ found. ⊥;
  Reaches = λ content old new. ⊥;
}

abbrev pub told_of_part : Part → Told
told_of_part part.Bracket = told_by bracket_subject
told_of_part part.Pipeline = unbuilt
told_of_part part.Service = unbuilt
told_of_part part.Pairs = unbuilt

abbrev pub told_of : About → Told
told_of about.Kinds = told_by kind_subject
told_of (about.Part p) = told_of_part p
