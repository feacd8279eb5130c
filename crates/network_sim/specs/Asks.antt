-- The first pass of a period with rules of the caller's own: what each is asked, and where an answer ends the pass.
use Rattle.std.specs.Prelude.{◌≡◌, ℕ, ◌<◌, ◌≤◌, Bool, List, ◌∷◌, length, slice_index, Option, Some, None}
use Rattle.std.proofs.Common.{get_or}
use Rattle.network_model.specs.declared.network.Rule.{Rule}
use Rattle.network_model.specs.declared.network.Rule.TheVariants.{House}
use Rattle.node_state.specs.Holdings.{Holding}
use Rattle.node_state.specs.Handed.{Ask, Handed, rule_at, reply_to}
use Rattle.network_sim.specs.declared.station.Station.{Station}
use Rattle.network_sim.specs.declared.errors.RuleOver.{RuleOver}
use Rattle.network_sim.specs.Machine.{station, noted_node, after_orders, ask_of, replies_of, order_at, callers_at, flag_at}
use Rattle.network_sim.specs.Houses.{first_over, over_of}

-- what a pass starts from: the rules as they are then, and the most that each may answer
pub record Pass : Type 0 where
  pub nodes : List Holding
  pub stations : List Station
  pub demanded : List ℕ
  pub demands : List ℕ
  pub paused : List Bool
  pub handed : List Handed
  pub caps : List ℕ

-- the nodes once the first i of them have ordered
abbrev pub ordered_in : Pass → ℕ → List Holding
ordered_in p i = after_orders (order_at p.stations p.demanded p.handed) (callers_at p.stations) (slice_index p.demands) (flag_at p.paused) p.nodes i

abbrev pub rule_in : Pass → ℕ → Rule
rule_in p i = (station p.stations i).rule

-- what a rule of the caller's own is asked at node i
abbrev pub asked_in : Pass → ℕ → Ask
asked_in p i = ask_of (station p.stations i) p.demanded (noted_node (ordered_in p i) i (callers_at p.stations i) (slice_index p.demands i))

-- the answer at node i that ends the pass
abbrev pub over_with : ℕ → Rule → List Handed → Ask → List ℕ → Option RuleOver
over_with i rule handed a caps = over_of i rule (replies_of handed a) (λ index. get_or caps index 0)

abbrev pub over_in : Pass → ℕ → Option RuleOver
over_in p i = over_with i (rule_in p i) p.handed (asked_in p i) p.caps

-- a rule has answered an ask, and is now what is left of it
abbrev pub HasReplied : Handed → Handed → Ask → Type 0
HasReplied before now a = (rest : List Ask) → before.replies (a ∷ rest) ≡ reply_to before a ∷ now.replies rest

-- a node's rule has answered, where it is one of the caller's own, and no other rule was asked
pub record IsAsked (rule : Rule) (before now : List Handed) (a : Ask) : Type 0 where
  pub all : length now ≡ length before
  pub replied : (index cap : ℕ) → rule ≡ House index cap → HasReplied (rule_at before index) (rule_at now index) a
  pub others : (k : ℕ) → ((cap : ℕ) → rule ≡ House k cap → ⊥) → rule_at now k ≡ rule_at before k

-- the rules of the first i nodes have answered; those of the other nodes below n stand as they were, and those of no node
pub record HaveReplied (p : Pass) (n i : ℕ) (now : List Handed) : Type 0 where
  pub all : length now ≡ length p.handed
  pub done : (k index cap : ℕ) → k < i → k < n → rule_in p k ≡ House index cap → HasReplied (rule_at p.handed index) (rule_at now index) (asked_in p k)
  pub left : (k index cap : ℕ) → i ≤ k → k < n → rule_in p k ≡ House index cap → rule_at now index ≡ rule_at p.handed index
  pub unnamed : (index : ℕ) → ((k cap : ℕ) → k < n → rule_in p k ≡ House index cap → ⊥) → rule_at now index ≡ rule_at p.handed index

-- the first i nodes have ordered, and no answer of their rules was above its cap
pub record HavePassed (p : Pass) (n i : ℕ) (nodes : List Holding) (now : List Handed) : Type 0 where
  pub ordered : nodes ≡ ordered_in p i
  pub within : first_over (over_in p) i ≡ None
  pub replied : HaveReplied p n i now

-- an answer ended the pass: no later rule was asked
pub record IsCut (p : Pass) (n : ℕ) (over : RuleOver) (now : List Handed) : Type 0 where
  pub first : first_over (over_in p) n ≡ Some over
  pub replied : HaveReplied p n over.node now

-- each rule that a node has is there, is no other node's, and keeps within the node's cap
pub record HasRule (count : ℕ) (caps : List ℕ) (rule : Rule) : Type 0 where
  pub there : (index cap : ℕ) → rule ≡ House index cap → index < count
  pub within : (index cap : ℕ) → rule ≡ House index cap → get_or caps index 0 ≤ cap

pub record HaveRules (p : Pass) (n : ℕ) : Type 0 where
  pub caps : length p.caps ≡ length p.handed
  pub each : (k : ℕ) → k < n → HasRule (length p.handed) p.caps (rule_in p k)
  pub apart : (j k index some other : ℕ) → j < n → k < n → rule_in p j ≡ House index some → rule_in p k ≡ House index other → j ≡ k
