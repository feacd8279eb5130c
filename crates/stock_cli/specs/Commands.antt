-- What a run's words come to, as a function of what its inputs hold and of the rules that are handed in.
use Rattle.std.specs.Prelude.{◌⊎◌, ℕ, List, Option, Some, Result, Ok, Err, String}
use Rattle.std.proofs.Common.{inl, inr}
use Rattle.std.specs.declared.alloc.Global.{Global}
use Rattle.node_state.specs.Handed.{Handed}
use Rattle.report_text.specs.Reports.{help_words}
use Rattle.stock_edge.specs.HeldFiles.{Held}
use Rattle.stock_cli.specs.Asks.{asked_of}
use Rattle.stock_cli.specs.Claims.{KindClaims, KindPlanClaims, OfContent}
use Rattle.stock_cli.specs.Endings.{kind_ending}
use Rattle.stock_cli.specs.Inputs.{contents}
use Rattle.stock_cli.specs.Outcome.{Ending, Plan, Planned, done, finished, refused}
use Rattle.stock_cli.specs.Status.{word_fault}
use Rattle.stock_cli.specs.Told.{told_of}
use Rattle.stock_cli.specs.Trial.{trial_text}
use Rattle.stock_cli.specs.Words.{command_of}
use Rattle.stock_cli.specs.declared.asked.Asked.{Asked}
use Rattle.stock_cli.specs.declared.asked.Asked.TheVariants as asked
use Rattle.stock_cli.specs.declared.words.Command.{Command}
use Rattle.stock_cli.specs.declared.words.WordErr.{WordErr}

-- how what is asked ends
abbrev pub asked_ending : Option (List ℕ) → Option Held → List (String Global) → Asked → Planned
asked_ending left held words (asked.Action of action) = (told_of of).ending (contents left held words) action
asked_ending left held words (asked.Kind question place) = kind_ending question (contents left held words place)
asked_ending left held words (asked.Number number) = Some (done (trial_text number))
asked_ending left held words asked.Nothing = Some (done help_words)

abbrev pub words_ending : Option (List ℕ) → Option Held → List (String Global) → Result Command WordErr → Planned
words_ending left held words (Ok command) = asked_ending left held words (asked_of command)
words_ending left held words (Err e) = refused (word_fault e)

-- how a run ends but for the run of a network, from the bytes of standard input and the files that are held, as far as the objects tell them
abbrev pub plan_of : Option (List ℕ) → Option Held → List (String Global) → Planned
plan_of left held words = words_ending left held words (command_of words)

-- how a run ends
abbrev pub ending_of : Option (List ℕ) → Option Held → List (String Global) → List Handed → Ending
ending_of left held words handed = finished handed (plan_of left held words)

-- a claim of the text of a plan that is known
abbrev pub OfText : (List ℕ → Type 0) → Plan → Type 0
OfText claim (inl output) = claim output.text
OfText claim (inr net) = ⊥

-- what the plan for what is asked claims, where the inputs are told
abbrev pub PlanClaims : Option (List ℕ) → Option Held → List (String Global) → Plan → Asked → Type 0
PlanClaims left held words plan (asked.Action of action) = OfText ((told_of of).Claims (contents left held words) action) plan
PlanClaims left held words plan (asked.Kind question place) = OfContent (contents left held words place) (KindPlanClaims question plan)
PlanClaims left held words plan _ = Unit {0}

-- what a run that is done claims, by what was asked, where the inputs are told: the report, the certificate that was written, or the one that was checked, or the table
abbrev pub Claims : Option (List ℕ) → Option Held → List (String Global) → List Handed → List ℕ → Asked → Type 0
Claims left held words handed text (asked.Action of action) = (told_of of).Claims (contents left held words) action text
Claims left held words handed text (asked.Kind question place) = OfContent (contents left held words place) (KindClaims question text handed)
Claims left held words handed text _ = Unit {0}
