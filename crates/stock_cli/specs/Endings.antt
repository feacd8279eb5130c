-- What is asked of a subject, and how it ends.
use Rattle.std.specs.Prelude.{◌≡◌, ℕ, List, length, if◌then◌else◌, nat_lt, Option, Some, None, Result, Ok, Err, is_ok}
use Rattle.std.proofs.Common.{inl, inr}
use Rattle.decision_model.specs.Kind.{kind_of}
use Rattle.decision_model.specs.declared.instance.Instance.{Instance}
use Rattle.decision_model.specs.declared.instance.Instance.TheVariants as instance
use Rattle.decision_model.specs.declared.kinds.Kind.{Kind}
use Rattle.json_forms.specs.declared.fault.InstanceFault.{InstanceFault}
use Rattle.line_text.specs.Breaches.{Breach}
use Rattle.line_text.specs.TextBreaches.{text_breach}
use Rattle.report_text.specs.Demand.{has_laws, demand_text_of}
use Rattle.report_text.specs.Verdicts.{accepted_text, rejection_text}
use Rattle.report_text.specs.declared.faults.Fault.{Fault}
use Rattle.report_text.specs.declared.faults.Fault.TheVariants as fault
use Rattle.stock_cli.specs.Inputs.{Content}
use Rattle.stock_cli.specs.KindSubject.{kind_subject}
use Rattle.stock_cli.specs.Outcome.{Output, Plan, Planned, printed, rejecting, done, refused}
use Rattle.stock_cli.specs.Subjects.{SubjectOf}
use Rattle.stock_cli.specs.declared.asked.KindQuestion.{KindQuestion}
use Rattle.stock_cli.specs.declared.asked.KindQuestion.TheVariants as kind
use Rattle.stock_cli.specs.declared.asked.Question.{Question}
use Rattle.stock_cli.specs.declared.asked.Question.TheVariants as question
use Rattle.stock_cli.specs.declared.words.Action.{Action}
use Rattle.stock_cli.specs.declared.words.Action.TheVariants as action

-- ---- of an item
-- something of the item's certificate, where it is solved
abbrev pub of_cert : {Cert : Type 0} → (Cert → List ℕ) → Result Cert Kind → Result Plan Fault
of_cert text (Ok c) = done (text c)
of_cert text (Err kind) = Err (fault.NotThisCommand kind)

abbrev pub question_outcome : {Item Cert : Type 0} → SubjectOf Item Cert → Question → Item → Result Plan Fault
question_outcome subject question.Solve item = of_cert (subject.report item) (subject.solved item)
question_outcome subject question.Certify item = of_cert subject.text (subject.solved item)

-- what a check says: accepted, or the line and the rule of the first breach
abbrev pub verdict_output : Option Breach → Output
verdict_output None = printed accepted_text
verdict_output (Some breach) = rejecting (rejection_text breach.line breach.rule)

abbrev pub verdict_ending : {Item Cert : Type 0} → SubjectOf Item Cert → Item → Content → Planned
verdict_ending subject item None = None
verdict_ending subject item (Some (Ok text)) = Some (Ok (inl (verdict_output (text_breach (subject.rules item) text))))
verdict_ending subject item (Some (Err f)) = refused f

-- a certificate is checked where the item is solved
abbrev pub check_ending : {Item Cert : Type 0} → SubjectOf Item Cert → Content → Item → Result Cert Kind → Planned
check_ending subject content item (Ok c) = verdict_ending subject item content
check_ending subject content item (Err kind) = refused (fault.NotThisCommand kind)

-- ---- reading the item
abbrev pub read_ending : {Item : Type 0} → (Item → Planned) → Result Item InstanceFault → Planned
read_ending answer (Ok item) = answer item
read_ending answer (Err f) = refused (fault.Instance f)

-- what is read has at most 1,048,576 bytes
abbrev pub bytes_ending : {Item Cert : Type 0} → SubjectOf Item Cert → (Item → Planned) → List ℕ → Planned
bytes_ending subject answer bytes = if nat_lt 1048576 (length bytes) then refused fault.TooLong else read_ending answer (subject.reads bytes)

abbrev pub item_ending : {Item Cert : Type 0} → SubjectOf Item Cert → (Item → Planned) → Content → Planned
item_ending subject answer None = None
item_ending subject answer (Some (Ok bytes)) = bytes_ending subject answer bytes
item_ending subject answer (Some (Err f)) = refused f

-- ---- of what inputs hold
-- a question on the item of one input
abbrev pub question_ending : {Item Cert : Type 0} → SubjectOf Item Cert → Question → Content → Planned
question_ending subject question content = item_ending subject (λ item. Some (question_outcome subject question item)) content

-- a check of one input's content against the item of another's
abbrev pub compare_ending : {Item Cert : Type 0} → SubjectOf Item Cert → Content → Content → Planned
compare_ending subject content cert = item_ending subject (λ item. check_ending subject cert item (subject.solved item)) content

-- an action, by what the inputs hold
abbrev pub action_ending : {Item Cert : Type 0} → SubjectOf Item Cert → (Option ℕ → Content) → Action → Planned
action_ending subject holds (action.Solve place) = question_ending subject question.Solve (holds place)
action_ending subject holds (action.Certify place) = question_ending subject question.Certify (holds place)
action_ending subject holds (action.Check place cert) = compare_ending subject (holds place) (holds cert)

-- ---- further questions on an instance of a kind
-- the laws of demand, for the kinds that have them
abbrev pub demand_outcome : Instance → Result Plan Fault
demand_outcome instance = if has_laws instance then done (demand_text_of instance) else Err (fault.NotThisCommand (kind_of instance))

-- the network that is to run
abbrev pub simulate_outcome : Instance → Result Plan Fault
simulate_outcome (instance.Network net) = Ok (inr net)
simulate_outcome instance = Err (fault.NotThisCommand (kind_of instance))

abbrev pub kind_outcome : KindQuestion → Instance → Result Plan Fault
kind_outcome kind.Demand instance = demand_outcome instance
kind_outcome kind.Simulate instance = simulate_outcome instance

abbrev pub kind_ending : KindQuestion → Content → Planned
kind_ending question content = item_ending kind_subject (λ instance. Some (kind_outcome question instance)) content
