-- How a run ends, and what it writes. Its outcome is a function of its words, of what its inputs hold and of the rules that are handed in, and knows nothing of pieces, faults or memory.
use Rattle.std.specs.Prelude.{◌≡◌, ◌⊎◌, ℕ, List, [], Option, Some, None, Result, Ok, Err, IsOk}
use Rattle.std.proofs.Common.{inl, inr}
use Rattle.std.specs.Io.KnownBytes.{Appends}
use Rattle.network_model.specs.declared.network.Network.{Network}
use Rattle.decision_model.specs.Network.{IsValidNetwork}
use Rattle.node_state.specs.Handed.{Handed}
use Rattle.network_sim.specs.Houses.{rules_refusal}
use Rattle.network_sim.specs.declared.errors.RuleOver.{RuleOver}
use Rattle.network_sim.specs.declared.errors.SimErr.{SimErr}
use Rattle.report_text.specs.Network.{first_periods, table_text}
use Rattle.report_text.specs.Reports.{help_words}
use Rattle.report_text.specs.declared.faults.Fault.{Fault}
use Rattle.report_text.specs.declared.faults.Fault.TheVariants as fault
use Rattle.stock_cli.specs.AnyCerts.{any_text, AnyHasText}
use Rattle.stock_cli.specs.Runs.{Run, run_of, sim_fault}
use Rattle.stock_cli.specs.Status.{status_of}
use Rattle.stock_cli.specs.declared.answers.Answer.{Answer}
use Rattle.stock_cli.specs.declared.answers.Answer.TheVariants as answer
use Rattle.stock_cli.specs.declared.answers.Task.{Task}
use Rattle.stock_cli.specs.declared.answers.Task.TheVariants as task
use Rattle.stock_cli.specs.declared.status.Status.{Status}
use Rattle.stock_cli.specs.declared.status.Status.TheVariants.{Done, Rejected}

-- the text on standard output, the status with it, and the fault that standard error is told of where one cut the text short
pub record Output : Type 0 where
  pub status : Status
  pub text : List ℕ
  pub message : Option Fault

-- how a run ends: with an output or a fault, where what it reads is told
abbrev pub Ending : Type 0
Ending = Option (Result Output Fault)

-- what is left to do once all inputs are read: to put out what is known, or to run a network
abbrev pub Plan : Type 0
Plan = Output ⊎ Network

-- how far the words and the inputs decide it
abbrev pub Planned : Type 0
Planned = Option (Result Plan Fault)

abbrev pub printed : List ℕ → Output
printed text = record { status = Done; text = text; message = None }

abbrev pub rejecting : List ℕ → Output
rejecting text = record { status = Rejected; text = text; message = None }

abbrev pub cut_by : Fault → List ℕ → Output
cut_by f text = record { status = status_of f; text = text; message = Some f }

abbrev pub done : List ℕ → Result Plan Fault
done text = Ok (inl (printed text))

abbrev pub refused : Fault → Planned
refused f = Some (Err f)

-- ---- the rules that are handed in
-- the table of a network, as far as its run comes
abbrev pub ran_output : Network → List Handed → ℕ → Option RuleOver → Output
ran_output net handed ran None = printed (table_text net handed)
ran_output net handed ran (Some over) = cut_by (fault.RuleOver over) (first_periods net handed ran)

abbrev pub run_outcome : Network → List Handed → Run → Result Output Fault
run_outcome net handed run = Ok (ran_output net handed run.ran run.over)

abbrev pub refused_or : Option SimErr → Result Output Fault → Result Output Fault
refused_or (Some e) outcome = Err (sim_fault e)
refused_or None outcome = outcome

-- a network with the rules that the caller hands in
abbrev pub network_outcome : Network → List Handed → Result Output Fault
network_outcome net handed = refused_or (rules_refusal net.nodes handed) (run_outcome net handed (run_of net handed net.periods))

abbrev pub outcome_of : List Handed → Result Plan Fault → Result Output Fault
outcome_of handed (Ok (inl output)) = Ok output
outcome_of handed (Ok (inr net)) = network_outcome net handed
outcome_of handed (Err f) = Err f

abbrev pub finished : List Handed → Planned → Ending
finished handed None = None
finished handed (Some plan) = Some (outcome_of handed plan)

abbrev pub text_of : Result Output Fault → List ℕ
text_of (Ok output) = output.text
text_of (Err f) = []

abbrev pub status_of_outcome : Result Output Fault → Status
status_of_outcome (Ok output) = output.status
status_of_outcome (Err f) = status_of f

-- what standard error is told
abbrev pub message_of : Result Output Fault → Option Fault
message_of (Ok output) = output.message
message_of (Err f) = Some f

-- ---- answers
-- what an answer puts on standard output, and the status with it
abbrev pub output_of : Answer → Output
output_of (answer.Printed text) = printed text
output_of (answer.Rejection text) = rejecting text
output_of (answer.Certificate c) = printed (any_text c)
output_of answer.Help = printed help_words

-- a certificate that is to be written has a text
abbrev pub AnswerHasText : Answer → Type 0
AnswerHasText (answer.Certificate c) = AnyHasText c
AnswerHasText _ = Unit {0}

-- ---- what is left to do, once all inputs are read
abbrev pub written : Answer → Plan
written answer = inl (output_of answer)

abbrev pub task_plan : Task → Plan
task_plan (task.Write answer) = written answer
task_plan (task.Run net) = inr net

-- the status of a run that has done it
abbrev pub task_status : Task → Status
task_status (task.Write answer) = (output_of answer).status
task_status (task.Run net) = Done

-- an answer has its text, and a network that is to run is valid
abbrev pub CanBeDone : Task → Type 0
CanBeDone (task.Write answer) = AnswerHasText answer
CanBeDone (task.Run net) = IsValidNetwork net

-- the whole text was written, with this status and no message
pub record Finishes (outcome : Result Output Fault) (given : Status) (old new : Option (List ℕ)) : Type 0 where
  pub output : Output
  pub is : outcome ≡ Ok output
  pub status_is : output.status ≡ given
  pub silent : output.message ≡ None
  pub written : Appends old new output.text

-- the text was written, and the fault is its message
pub record EndsWith (outcome : Result Output Fault) (old new : Option (List ℕ)) (f : Fault) : Type 0 where
  pub told : message_of outcome ≡ Some f
  pub status_is : status_of_outcome outcome ≡ status_of f
  pub written : Appends old new (text_of outcome)

-- why a text wasn't written to its end: the sink failed, where there is a text, or memory was refused, or that is how the run ends
abbrev pub EndsBy : Type 0 → Result Output Fault → Option (List ℕ) → Option (List ℕ) → Fault → Type 0
EndsBy rose outcome old new fault.WriteFault = rose × IsOk outcome
EndsBy rose outcome old new fault.Memory = Unit {0}
EndsBy rose outcome old new f = EndsWith outcome old new f
