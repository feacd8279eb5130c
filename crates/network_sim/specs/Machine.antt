-- The first pass of a period, as a function of what the nodes hold: each node sees what comes to it, and orders.
use Rattle.std.specs.Prelude.{◌≡◌, ℕ, zero, suc, ◌+◌, ◌-◌, ◌*◌, ◌^◌, ◌<◌, ◌≤◌, ℤ, pos, ◌-ℤ◌, Bool, true, false, cond, List, [], ◌∷◌, length, map, All}
use Rattle.std.proofs.Common.{get_or}
use Rattle.std.proofs.Math.ListN.{set}
use Rattle.network_model.specs.declared.network.NodeSpec.{NodeSpec}
use Rattle.network_model.specs.declared.network.Rule.TheVariants.{Base}
use Rattle.network_model.specs.declared.network.Demand.TheVariants.{Nobody}
use Rattle.network_model.specs.Nodes.{node_at, no_link, is_echelon}
use Rattle.network_model.specs.Network.{is_drawn}
use Rattle.network_model.specs.Load.{echelon_sum}
use Rattle.node_state.specs.Holdings.{Holding, local_position, no_holding, no_leg, begun, with_claims, placed, total, total_due}
use Rattle.node_state.specs.Handed.{Ask, Handed, rule_at, reply_to}
use Rattle.node_state.specs.Totals.{Line, before, claims_on, order_by}
use Rattle.network_sim.specs.declared.links.Caller.{Caller}
use Rattle.network_sim.specs.declared.station.Station.{Station}

abbrev pub node : List Holding → ℕ → Holding
node nodes i = get_or nodes i no_holding

-- the order that reaches a node from one of those that order from it
abbrev pub front : List Holding → Caller → ℕ
front nodes c = get_or (get_or (node nodes c.node).legs c.source no_leg).way 0 0

abbrev pub fronts : List Holding → List Caller → List ℕ
fronts nodes callers = map (front nodes) callers

abbrev pub noted_node : List Holding → ℕ → List Caller → ℕ → Holding
noted_node nodes i callers d = with_claims (begun (node nodes i) d) (fronts nodes callers)

-- each caller is a node before node i, and one of its sources
abbrev pub AreCallers : List Holding → ℕ → List Caller → Type 0
AreCallers nodes i callers = All (λ c. (c.node < i) × (c.source < length (node nodes c.node).legs)) callers

-- node i after it has seen what comes to it and ordered, by a function of what it then holds
abbrev pub ordered_node : (Holding → ℕ) → List Holding → ℕ → List Caller → ℕ → Bool → Holding
ordered_node order nodes i callers d paused =
    placed (noted_node nodes i callers d) (cond paused 0 (order (noted_node nodes i callers d)))

-- node i can enter what it sees and orders, within 10^12
pub record CanOrder (order : Holding → ℕ) (nodes : List Holding) (i : ℕ) (callers : List Caller) (d : ℕ) (paused : Bool) : Type 0 where
  pub is_node : i < length nodes
  pub are_callers : AreCallers nodes i callers
  pub are_slots : length callers ≤ length (node nodes i).claims
  pub few_noted : (node nodes i).noted + d + total (fronts nodes callers) ≤ 10 ^ 12
  pub few_ordered : (node nodes i).ordered + cond paused 0 (order (noted_node nodes i callers d)) ≤ 10 ^ 12

-- the nodes once the first n of them have ordered
abbrev pub after_orders : (ℕ → Holding → ℕ) → (ℕ → List Caller) → (ℕ → ℕ) → (ℕ → Bool) → List Holding → ℕ → List Holding
after_orders order callers demand paused nodes zero = nodes
after_orders order callers demand paused nodes (suc i) =
    let now = after_orders order callers demand paused nodes i in
    set now i (ordered_node (order i) now i (callers i) (demand i) (paused i))

-- ---- what a simulator knows of a node
abbrev pub no_station : Station
no_station = record { rule = Base (pos 0); holding = 0; stockout = 0; callers = []; suppliers = []; initial = 0; below = []; demand = Nobody }

abbrev pub station : List Station → ℕ → Station
station stations i = get_or stations i no_station

abbrev pub callers_at : List Station → ℕ → List Caller
callers_at stations i = (station stations i).callers

abbrev pub flag_at : List Bool → ℕ → Bool
flag_at flags i = get_or flags i false

-- how many of the first i stations have a law of demand
abbrev pub drawn_in : List Station → ℕ → ℕ
drawn_in stations zero = 0
drawn_in stations (suc i) = drawn_in stations i + cond (is_drawn (station stations i).demand) 1 0

-- the sum of a list's entries at some places
abbrev pub sum_at : List ℕ → List ℕ → ℕ
sum_at [] xs = 0
sum_at (k ∷ ks) xs = get_or xs k 0 + sum_at ks xs

-- the position that the rule looks at, by what the node holds and all that customers have demanded of each node
abbrev pub position_of : Station → List ℕ → Holding → ℤ
position_of s demanded h = cond (is_echelon s.rule) (pos (s.initial + h.ordered) -ℤ pos (sum_at s.below demanded)) (local_position h)

-- what a rule of the caller's own is asked at a node that has seen what comes to it
abbrev pub ask_of : Station → List ℕ → Holding → Ask
ask_of s demanded h = record { position = position_of s demanded h; seen = h.seen }

-- the answers of the rules, by index
abbrev pub replies_of : List Handed → Ask → ℕ → ℕ
replies_of handed a index = reply_to (rule_at handed index) a

-- what a node orders, with the rules of the caller's own as they are
abbrev pub order_with : Station → List ℕ → List Handed → Holding → ℕ
order_with s demanded handed h = order_by s.rule (position_of s demanded h) (replies_of handed (ask_of s demanded h))

abbrev pub order_at : List Station → List ℕ → List Handed → ℕ → Holding → ℕ
order_at stations demanded handed i h = order_with (station stations i) demanded handed h

-- the sums that the rule of an echelon looks at are small
pub record IsInReach (s : Station) (demanded : List ℕ) : Type 0 where
  pub initial : is_echelon s.rule ≡ true → s.initial ≤ 10 ^ 12
  pub places : All (λ k. k < length demanded) s.below
  pub gone : is_echelon s.rule ≡ true → sum_at s.below demanded ≤ 10 ^ 12

-- ---- a node's line
abbrev pub no_line : Line
no_line = record { units_seen = 0; order = 0; units_made = 0; stock = 0; owed = 0; due = 0; cost = 0 }

-- the line of a node that had ordered so much before the period
abbrev pub line_of : Station → ℕ → Holding → Line
line_of s ordered h = record {
  units_seen = h.seen;
  order = h.ordered - ordered;
  units_made = h.made;
  stock = h.stock;
  owed = h.owed;
  due = total_due h.claims;
  cost = s.holding * h.stock + s.stockout * h.owed;
}

-- ---- what makes it true to a network
-- the callers of node i are those of the network, in listed order
pub record AreCallersOf (nodes : List NodeSpec) (i : ℕ) (callers : List Caller) : Type 0 where
  pub known : All (λ c. (c.node < i) × (c.source < length (node_at nodes c.node).sources)) callers
  pub claims : (O : ℕ → ℕ → ℕ) (t : ℕ) → claims_on nodes O i t ≡ map (λ c. O c.node (before (get_or (node_at nodes c.node).sources c.source no_link).order_lead t)) callers

-- the initial stock and the places of node i and all nodes below it
pub record IsEchelonOf (nodes : List NodeSpec) (i : ℕ) (initial : ℕ) (below : List ℕ) : Type 0 where
  pub stock : initial ≡ echelon_sum nodes i (λ j. (node_at nodes j).initial) (suc i)
  pub places : (xs : List ℕ) → sum_at below xs ≡ echelon_sum nodes i (λ j. get_or xs j 0) (suc i)
  pub known : All (λ k. k < length nodes) below
