-- What the output of a run that is done claims, by what its plan does.
use Rattle.std.proofs.Common.{◌≡◌, inl, inr, ℕ, List, Option, Some, None, Result, Ok, String, sym, subst}
use Rattle.std.specs.declared.alloc.Global.{Global}
use Rattle.decision_model.specs.declared.instance.Instance.{Instance}
use Rattle.network_model.specs.declared.network.Network.{Network}
use Rattle.node_state.specs.Handed.{Handed}
use Rattle.network_sim.specs.Houses.{rules_refusal}
use Rattle.network_sim.specs.declared.errors.RuleOver.{RuleOver}
use Rattle.network_sim.specs.declared.errors.SimErr.{SimErr}
use Rattle.report_text.specs.Network.{table_text}
use Rattle.report_text.specs.declared.faults.Fault.{Fault}
use Rattle.stock_edge.specs.HeldFiles.{Held}
use Rattle.stock_cli.specs.Claims.{KindClaims, KindPlanClaims, OfContent, IsTable}
use Rattle.stock_cli.specs.Commands.{Claims, OfText, PlanClaims}
use Rattle.stock_cli.specs.Inputs.{Content, contents}
use Rattle.stock_cli.specs.Outcome.{Output, Plan, outcome_of, ran_output, refused_or}
use Rattle.stock_cli.specs.Runs.{run_of}
use Rattle.stock_cli.specs.Told.{told_of}
use Rattle.stock_cli.specs.declared.asked.Asked.{Asked}
use Rattle.stock_cli.specs.declared.asked.Asked.TheVariants as asked
use Rattle.stock_cli.specs.declared.asked.KindQuestion.{KindQuestion}
use Rattle.stock_cli.specs.declared.asked.KindQuestion.TheVariants as kind
use Rattle.stock_cli.proofs.Simulations.{is_table}

-- a claim of whatever instance the content is
of_weaker : (content : Content) (P Q : Instance → Type 0) → ((i : Instance) → P i → Q i) → OfContent content P → OfContent content Q
of_weaker None P Q weaker claims = tt
of_weaker (Some found) P Q weaker claims = record { bytes = claims.bytes; told = claims.told; item = claims.item; said = claims.said; holds = weaker claims.item claims.holds }

abbrev ended : Output → Result Output Fault
ended output = Ok output

same_output : (one other : Output) → ended one ≡ ended other → one ≡ other
same_output one other e = cc e

-- the text of a network that ran to its end
whole_table : (first : Option SimErr) (net : Network) (handed : List Handed) (ran : ℕ) (over : Option RuleOver) (output : Output) →
    refused_or first (Ok (ran_output net handed ran over)) ≡ Ok output → output.message ≡ None → output.text ≡ table_text net handed
whole_table (Some e) net handed ran over output is silent = absurd (cc is)
whole_table None net handed ran None output is silent = sym (cc is)
whole_table None net handed ran (Some over) output is silent = absurd (cc (is, silent))

-- a claim of a text that was known is one of the output
text_claimed : (handed : List Handed) (plan : Plan) (output : Output) (claim : List ℕ → Type 0) → outcome_of handed (Ok plan) ≡ Ok output → OfText claim plan → claim output.text
text_claimed handed (inl known) output claim is claims =
    let P : Output → Type 0 = λ o. claim o.text in
    subst P (same_output known output is) claims
text_claimed handed (inr net) output claim is claims = absurd claims

table_claimed : (handed : List Handed) (plan : Plan) (output : Output) → outcome_of handed (Ok plan) ≡ Ok output → output.message ≡ None → (i : Instance) → KindPlanClaims kind.Simulate plan i → IsTable output.text handed i
table_claimed handed (inl known) output is silent i claims = absurd claims
table_claimed handed (inr net) output is silent i claims =
    let text : output.text ≡ table_text net handed =
    whole_table (rules_refusal net.nodes handed) net handed (run_of net handed net.periods).ran (run_of net handed net.periods).over output is silent in
    let T : List ℕ → Type 0 = λ t. IsTable t handed i in
    let I : Instance → Type 0 = IsTable (table_text net handed) handed in
    subst T (sym text) (subst I (sym claims.is) (is_table net handed claims.valid))

kind_claimed : (asking : KindQuestion) (handed : List Handed) (plan : Plan) (output : Output) → outcome_of handed (Ok plan) ≡ Ok output → output.message ≡ None → (i : Instance) → KindPlanClaims asking plan i → KindClaims asking output.text handed i
kind_claimed kind.Demand handed plan output is silent i claims = tt
kind_claimed kind.Simulate handed plan output is silent i claims = table_claimed handed plan output is silent i claims

pub claims_finished : (left : Option (List ℕ)) (held : Option Held) (words : List (String Global)) (handed : List Handed) (plan : Plan) (output : Output) (asking : Asked) →
    outcome_of handed (Ok plan) ≡ Ok output → output.message ≡ None → PlanClaims left held words plan asking → Claims left held words handed output.text asking
claims_finished left held words handed plan output (asked.Action of action) is silent claims =
    text_claimed handed plan output ((told_of of).Claims (contents left held words) action) is claims
claims_finished left held words handed plan output (asked.Kind asking place) is silent claims =
    of_weaker (contents left held words place) (KindPlanClaims asking plan) (KindClaims asking output.text handed) (kind_claimed asking handed plan output is silent) claims
claims_finished left held words handed plan output (asked.Number number) is silent claims = tt
claims_finished left held words handed plan output asked.Nothing is silent claims = tt
