-- Rules of the caller's own: which lists of them a network can be run with, and the answer that ends a run.
use Rattle.std.specs.Prelude.{◌≡◌, ℕ, zero, suc, ◌<◌, List, ◌++◌, length, Bool, false, ◌||◌, ◌==◌, cond, if◌then◌else◌, nat_le, nat_lt, Option, Some, None, ⊤}
use Rattle.network_model.specs.declared.network.NodeSpec.{NodeSpec}
use Rattle.network_model.specs.declared.network.Rule.{Rule}
use Rattle.network_model.specs.declared.network.Rule.TheVariants.{Base, MinMax, Lot, Echelon, House}
use Rattle.network_model.specs.Nodes.{node_at}
use Rattle.node_state.specs.Handed.{Ask, Handed, rule_at}
use Rattle.node_state.specs.Totals.{Setting, spec_at, asks, answer}
use Rattle.node_state.specs.Table.{orders_of_run}
use Rattle.network_sim.specs.declared.errors.SimErr.{SimErr}
use Rattle.network_sim.specs.declared.errors.SimErr.TheVariants.{NoRule, RuleShared, RuleCap, Memory}
use Rattle.network_sim.specs.declared.errors.RuleOver.{RuleOver}

-- the first of two answers that is there
abbrev pub or_else : {X : Type 0} → Option X → Option X → Option X
or_else (Some x) y = Some x
or_else None y = y

-- ---- which rules a network can be run with
-- the rule is that of the caller's own at an index
abbrev pub is_house : ℕ → Rule → Bool
is_house index (House other cap) = other == index
is_house index (Base level) = false
is_house index (MinMax low high) = false
is_house index (Lot reorder lot) = false
is_house index (Echelon level) = false

-- one of the first i nodes has the caller's rule at an index
abbrev pub is_named : List NodeSpec → ℕ → ℕ → Bool
is_named nodes index zero = false
is_named nodes index (suc i) = is_named nodes index i || is_house index (node_at nodes i).rule

-- what is wrong with a node's rule: it isn't there, an earlier node has it, or it may answer more than the node says
abbrev pub rule_refusal : List NodeSpec → List Handed → ℕ → Rule → Option SimErr
rule_refusal nodes handed i (House index cap) =
    if nat_le (length handed) index then Some (NoRule index)
    else (if is_named nodes index i then Some (RuleShared index)
    else (if nat_lt cap (rule_at handed index).most then Some (RuleCap index) else None))
rule_refusal nodes handed i (Base level) = None
rule_refusal nodes handed i (MinMax low high) = None
rule_refusal nodes handed i (Lot reorder lot) = None
rule_refusal nodes handed i (Echelon level) = None

-- the first refusal among the first i nodes
abbrev pub refusal_before : List NodeSpec → List Handed → ℕ → Option SimErr
refusal_before nodes handed zero = None
refusal_before nodes handed (suc i) = or_else (refusal_before nodes handed i) (rule_refusal nodes handed i (node_at nodes i).rule)

-- why a network can't be run with these rules
abbrev pub rules_refusal : List NodeSpec → List Handed → Option SimErr
rules_refusal nodes handed = refusal_before nodes handed (length nodes)

-- a refusal is want of memory, or that of the rules
abbrev pub IsRefusalOf : Option SimErr → SimErr → Type 0
IsRefusalOf first Memory = ⊤
IsRefusalOf first e = first ≡ Some e

-- ---- the answer that ends a run
-- the answer of node i's rule that passes the rule's cap, where the rules give these answers and have these caps
abbrev pub over_of : ℕ → Rule → (ℕ → ℕ) → (ℕ → ℕ) → Option RuleOver
over_of i (House index cap) given most =
    if nat_lt (most index) (given index) then Some (record { node = suc i; answer = given index; cap = most index }) else None
over_of i (Base level) given most = None
over_of i (MinMax low high) given most = None
over_of i (Lot reorder lot) given most = None
over_of i (Echelon level) given most = None

-- the first such answer among the first i nodes
abbrev pub first_over : (ℕ → Option RuleOver) → ℕ → Option RuleOver
first_over over zero = None
first_over over (suc i) = or_else (first_over over i) (over i)

-- an answer of node i's rule in period suc t that passes the rule's cap
abbrev pub over_by : Setting → ℕ → ℕ → Option RuleOver
over_by setting t i =
    over_of i (spec_at setting i).rule (λ index. answer setting (orders_of_run setting) i index t) (λ index. (rule_at setting.handed index).most)

-- the answer that ends a run in period suc t: the first, in listed order, that passes its rule's cap
abbrev pub period_over : Setting → ℕ → Option RuleOver
period_over setting t = first_over (over_by setting t) (length setting.network.nodes)

-- ---- what is asked
-- a rule that was handed in has answered these asks and is now what is left of it
pub record HasAnswered (before now : Handed) (asked : List Ask) : Type 0 where
  pub answers : List ℕ
  pub each : length answers ≡ length asked
  pub rest : (more : List Ask) → before.replies (asked ++ more) ≡ answers ++ now.replies more

-- the rules of the first i nodes have answered in period suc t, one ask each, and those of the others not yet; a rule that no
-- node names is never asked
pub record HaveAnswered (setting : Setting) (t i : ℕ) (now : List Handed) : Type 0 where
  pub all : length now ≡ length setting.handed
  pub each : (k index cap : ℕ) → k < length setting.network.nodes → (spec_at setting k).rule ≡ House index cap →
      HasAnswered (rule_at setting.handed index) (rule_at now index) (asks setting (orders_of_run setting) k (cond (nat_lt k i) (suc t) t))
  pub unnamed : (index : ℕ) → is_named setting.network.nodes index (length setting.network.nodes) ≡ false → rule_at now index ≡ rule_at setting.handed index
