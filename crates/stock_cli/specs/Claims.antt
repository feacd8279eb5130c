-- What the output of a run that is done claims.
use Rattle.std.specs.Prelude.{◌≡◌, ℕ, List, length, map, IfSome, Option}
use Rattle.std.proofs.Common.{inl, inr}
use Rattle.std.specs.List.{range_with_len}
use Rattle.decision_model.specs.declared.instance.Instance.{Instance}
use Rattle.decision_model.specs.declared.instance.Instance.TheVariants as variant
use Rattle.decision_model.specs.Network.{IsValidNetwork}
use Rattle.network_model.specs.declared.network.Network.{Network}
use Rattle.node_state.specs.Handed.{Handed}
use Rattle.node_state.specs.Totals.{IsRun, line}
use Rattle.node_state.specs.Table.{network_row, setting_of}
use Rattle.report_text.specs.Network.{table_text}
use Rattle.stock_cli.specs.Inputs.{Content}
use Rattle.stock_cli.specs.KindSubject.{kind_subject}
use Rattle.stock_cli.specs.Outcome.{Plan}
use Rattle.stock_cli.specs.Subjects.{SubjectOf, OfItem, HoldsCertificate, IsCertificate, IsReport}
use Rattle.stock_cli.specs.declared.asked.KindQuestion.{KindQuestion}
use Rattle.stock_cli.specs.declared.asked.KindQuestion.TheVariants as kind
use Rattle.stock_cli.specs.declared.asked.Question.{Question}
use Rattle.stock_cli.specs.declared.asked.Question.TheVariants as question
use Rattle.stock_cli.specs.declared.words.Action.{Action}
use Rattle.stock_cli.specs.declared.words.Action.TheVariants as action

-- ---- of a subject
-- what the text that answers a question claims of the item
abbrev pub QuestionClaims : {Item Cert : Type 0} → SubjectOf Item Cert → Question → List ℕ → Item → Type 0
QuestionClaims subject question.Solve text item = IsReport subject item text
QuestionClaims subject question.Certify text item = IsCertificate subject item text

-- the same where it is told which item an input holds
abbrev pub AskClaims : {Item Cert : Type 0} → SubjectOf Item Cert → Question → Content → List ℕ → Type 0
AskClaims subject question content text = IfSome content (λ found. OfItem subject found (QuestionClaims subject question text))

-- what a check that accepts claims of the contents of its two inputs, where they are told
abbrev pub CompareClaims : {Item Cert : Type 0} → SubjectOf Item Cert → Content → Content → Type 0
CompareClaims subject content cert = IfSome content (λ found. OfItem subject found (HoldsCertificate subject cert))

-- what the text that answers an action claims, where its inputs are told: the report, the certificate that is to be written, or the one that was checked
abbrev pub ActionClaims : {Item Cert : Type 0} → SubjectOf Item Cert → (Option ℕ → Content) → Action → List ℕ → Type 0
ActionClaims subject holds (action.Solve place) text = AskClaims subject question.Solve (holds place) text
ActionClaims subject holds (action.Certify place) text = AskClaims subject question.Certify (holds place) text
ActionClaims subject holds (action.Check place cert) text = CompareClaims subject (holds place) (holds cert)

-- ---- of the kinds alone
-- the text is the table of the instance, a network: the lines that follow, period by period, from orders and served units that keep the network's equations
pub record IsTable (text : List ℕ) (handed : List Handed) (instance : Instance) : Type 0 where
  pub network : Network
  pub is : instance ≡ variant.Network network
  pub text_is : text ≡ table_text network handed
  pub orders : ℕ → ℕ → ℕ
  pub served : ℕ → ℕ → List ℕ
  pub run : IsRun (setting_of network handed) orders served
  pub rows : (t : ℕ) → network_row network handed t ≡ map (λ i. line (setting_of network handed) orders served i t) (range_with_len 0 (length network.nodes))

-- the instance is this network, which is valid
pub record IsNetwork (net : Network) (instance : Instance) : Type 0 where
  pub is : instance ≡ variant.Network net
  pub valid : IsValidNetwork net

-- what the plan for a further question claims
abbrev pub KindPlanClaims : KindQuestion → Plan → Instance → Type 0
KindPlanClaims kind.Demand (inl output) instance = Unit {0}
KindPlanClaims kind.Simulate (inr net) instance = IsNetwork net instance
KindPlanClaims _ _ instance = ⊥

-- what the text that answers it claims
abbrev pub KindClaims : KindQuestion → List ℕ → List Handed → Instance → Type 0
KindClaims kind.Demand text handed instance = Unit {0}
KindClaims kind.Simulate text handed instance = IsTable text handed instance

-- the content is that of an instance of which this holds, where it is told
abbrev pub OfContent : Content → (Instance → Type 0) → Type 0
OfContent content claim = IfSome content (λ found. OfItem kind_subject found claim)
