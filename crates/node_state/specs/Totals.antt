-- A network by running totals. Nodes are numbered from 0, periods from 1; totals at period 0 are 0.
use Rattle.std.specs.Prelude.{◌≡◌, ℕ, zero, suc, ◌+◌, ◌-◌, ◌*◌, ◌^◌, ◌<◌, ◌≤◌, min, ℤ, pos, ◌-ℤ◌, Bool, cond, List, [], ◌∷◌, ◌++◌, length, drop, map, Option, Some, None, All, ⊤}
use Rattle.std.proofs.Common.{get_or}
use Rattle.network_model.specs.declared.network.Network.{Network}
use Rattle.network_model.specs.declared.network.NodeSpec.{NodeSpec}
use Rattle.network_model.specs.declared.network.Link.{Link}
use Rattle.network_model.specs.declared.network.Pause.TheVariants.{Orders, Shipments, Receipts}
use Rattle.network_model.specs.declared.network.Rule.{Rule}
use Rattle.network_model.specs.declared.network.Rule.TheVariants.{Base, MinMax, Lot, Echelon, House}
use Rattle.network_model.specs.Nodes.{node_at, is_from, is_echelon, top_of}
use Rattle.network_model.specs.Pauses.{is_paused}
use Rattle.network_model.specs.Load.{echelon_sum, own_load, need_most, order_limit, order_most}
use Rattle.node_state.specs.Holdings.{total, zeros}
use Rattle.node_state.specs.Handed.{Ask, Handed, rule_at}
use Rattle.node_state.specs.Orders.{order_of}

-- a network, what the customers of each node demand in each period, and the rules that the caller hands in
pub record Setting : Type 0 where
  pub network : Network
  pub demand : ℕ → ℕ → ℕ
  pub handed : List Handed

abbrev pub spec_at : Setting → ℕ → NodeSpec
spec_at setting i = node_at setting.network.nodes i

-- ---- what comes to a node
-- the demand of a node's customers up to a period
abbrev pub demanded : Setting → ℕ → ℕ → ℕ
demanded setting i zero = 0
demanded setting i (suc t) = demanded setting i t + setting.demand i (suc t)

-- the period some periods before t, or 0 where there is none
abbrev pub before : ℕ → ℕ → ℕ
before zero t = t
before (suc k) zero = 0
before (suc k) (suc t) = before k t

-- of a node's orders, the totals that have reached node i
abbrev pub claims_of : (ℕ → ℕ) → ℕ → ℕ → List Link → List ℕ
claims_of O i t [] = []
claims_of O i t (l ∷ ls) = cond (is_from i l.from) (O (before l.order_lead t) ∷ claims_of O i t ls) (claims_of O i t ls)

-- the totals that have reached node i from the first j nodes, in listed order
abbrev pub claims_upto : List NodeSpec → (ℕ → ℕ → ℕ) → ℕ → ℕ → ℕ → List ℕ
claims_upto nodes O i t zero = []
claims_upto nodes O i t (suc j) = claims_upto nodes O i t j ++ claims_of (O j) i t (node_at nodes j).sources

abbrev pub claims_on : List NodeSpec → (ℕ → ℕ → ℕ) → ℕ → ℕ → List ℕ
claims_on nodes O i t = claims_upto nodes O i t i

-- the place of node j's claim among those on node i
abbrev pub slot : List NodeSpec → ℕ → ℕ → ℕ
slot nodes i j = length (claims_upto nodes (λ k t. 0) i 0 j)

abbrev pub seen : Setting → (ℕ → ℕ → ℕ) → ℕ → ℕ → ℕ
seen setting O i t = demanded setting i t + total (claims_on setting.network.nodes O i t)

-- all claims on a node, customers first
abbrev pub all_claims : Setting → (ℕ → ℕ → ℕ) → ℕ → ℕ → List ℕ
all_claims setting O i t = demanded setting i t ∷ claims_on setting.network.nodes O i t

-- ---- orders
-- the position that the rule of node i looks at in period suc t
abbrev pub position : Setting → (ℕ → ℕ → ℕ) → ℕ → ℕ → ℤ
position setting O i t = cond (is_echelon (spec_at setting i).rule)
    (pos (echelon_sum setting.network.nodes i (λ j. (spec_at setting j).initial) (suc i) + O i t) -ℤ pos (echelon_sum setting.network.nodes i (λ j. demanded setting j (suc t)) (suc i)))
    (pos ((spec_at setting i).initial + O i t) -ℤ pos (seen setting O i (suc t)))

abbrev pub orders_paused : Setting → ℕ → ℕ → Bool
orders_paused setting i t = is_paused setting.network.pauses Orders i t

-- what a rule of the caller's own is asked at node i in period suc t
abbrev pub ask : Setting → (ℕ → ℕ → ℕ) → ℕ → ℕ → Ask
ask setting O i t = record { position = position setting O i t; seen = seen setting O i (suc t) - seen setting O i t }

-- its asks up to period t: one a period, also where the node's orders pause
abbrev pub asks : Setting → (ℕ → ℕ → ℕ) → ℕ → ℕ → List Ask
asks setting O i zero = []
asks setting O i (suc t) = asks setting O i t ++ ask setting O i t ∷ []

-- the answer in period suc t of the rule at this index
abbrev pub answer : Setting → (ℕ → ℕ → ℕ) → ℕ → ℕ → ℕ → ℕ
answer setting O i index t = get_or ((rule_at setting.handed index).replies (asks setting O i (suc t))) t 0

-- what a rule orders at a position, where a rule of the caller's own gives this answer; one above the node's cap ends the run and is never ordered
abbrev pub order_by : Rule → ℤ → (ℕ → ℕ) → ℕ
order_by (Base level) p given = order_of (Base level) p
order_by (MinMax low high) p given = order_of (MinMax low high) p
order_by (Lot reorder lot) p given = order_of (Lot reorder lot) p
order_by (Echelon level) p given = order_of (Echelon level) p
order_by (House index cap) p given = min (given index) cap

abbrev pub orders_next : Setting → (ℕ → ℕ → ℕ) → ℕ → ℕ → ℕ
orders_next setting O i t =
    O i t + cond (orders_paused setting i (suc t)) 0 (order_by (spec_at setting i).rule (position setting O i t) (λ index. answer setting O i index t))

-- ---- units
-- what a link's supplier has shipped on it; served totals stand customers first
abbrev pub shipped_from : Setting → (ℕ → ℕ → ℕ) → (ℕ → ℕ → List ℕ) → ℕ → Option ℕ → ℕ → ℕ → ℕ
shipped_from setting O V i None order_lead t = O i (before order_lead t)
shipped_from setting O V i (Some k) order_lead t = get_or (V k t) (suc (slot setting.network.nodes k i)) 0

abbrev pub shipped : Setting → (ℕ → ℕ → ℕ) → (ℕ → ℕ → List ℕ) → ℕ → Link → ℕ → ℕ
shipped setting O V i l t = shipped_from setting O V i l.from l.order_lead t

abbrev pub receipts_paused : Setting → ℕ → ℕ → Bool
receipts_paused setting i t = is_paused setting.network.pauses Receipts i t

abbrev pub received : Setting → (ℕ → ℕ → ℕ) → (ℕ → ℕ → List ℕ) → ℕ → Link → ℕ → ℕ
received setting O V i l zero = 0
received setting O V i l (suc t) = cond (receipts_paused setting i (suc t)) (received setting O V i l t) (shipped setting O V i l (before l.lead (suc t)))

-- the least of a list
abbrev pub least_from : ℕ → List ℕ → ℕ
least_from m [] = m
least_from m (x ∷ xs) = least_from (min x m) xs

abbrev pub least : List ℕ → ℕ
least [] = 0
least (x ∷ xs) = least_from x xs

abbrev pub made : Setting → (ℕ → ℕ → ℕ) → (ℕ → ℕ → List ℕ) → ℕ → ℕ → ℕ
made setting O V i t = least (map (λ l. received setting O V i l t) (spec_at setting i).sources)

-- each claim in turn gains the lesser of its unserved total and what is left
abbrev pub serve : List ℕ → List ℕ → ℕ → List ℕ
serve [] before left = []
serve (c ∷ cs) before left =
    (get_or before 0 0 + min (c - get_or before 0 0) left) ∷ serve cs (drop 1 before) (left - min (c - get_or before 0 0) left)

abbrev pub shipments_paused : Setting → ℕ → ℕ → Bool
shipments_paused setting i t = is_paused setting.network.pauses Shipments i t

abbrev pub served_next : Setting → (ℕ → ℕ → ℕ) → (ℕ → ℕ → List ℕ) → ℕ → ℕ → List ℕ
served_next setting O V i t = cond (shipments_paused setting i (suc t))
    (V i t)
    (serve (all_claims setting O i (suc t)) (V i t) ((spec_at setting i).initial + made setting O V i (suc t) - total (V i t)))

-- orders O and served totals V are those of the network
pub record IsRun (setting : Setting) (O : ℕ → ℕ → ℕ) (V : ℕ → ℕ → List ℕ) : Type 0 where
  pub no_orders : (i : ℕ) → O i 0 ≡ 0
  pub none_served : (i : ℕ) → i < length setting.network.nodes → V i 0 ≡ zeros (length (all_claims setting O i 0))
  pub orders : (i t : ℕ) → i < length setting.network.nodes → O i (suc t) ≡ orders_next setting O i t
  pub served : (i t : ℕ) → i < length setting.network.nodes → V i (suc t) ≡ served_next setting O V i t

-- ---- the row of a node in a period
pub record Line : Type 0 where
  pub units_seen : ℕ
  pub order : ℕ
  pub units_made : ℕ
  pub stock : ℕ
  -- to customers
  pub owed : ℕ
  -- to the nodes that order from here
  pub due : ℕ
  pub cost : ℕ

abbrev pub stock : Setting → (ℕ → ℕ → ℕ) → (ℕ → ℕ → List ℕ) → ℕ → ℕ → ℕ
stock setting O V i t = (spec_at setting i).initial + made setting O V i t - total (V i t)

abbrev pub owed : Setting → (ℕ → ℕ → List ℕ) → ℕ → ℕ → ℕ
owed setting V i t = demanded setting i t - get_or (V i t) 0 0

abbrev pub due : Setting → (ℕ → ℕ → ℕ) → (ℕ → ℕ → List ℕ) → ℕ → ℕ → ℕ
due setting O V i t = total (claims_on setting.network.nodes O i t) - total (drop 1 (V i t))

-- the row of node i in period suc t
abbrev pub line : Setting → (ℕ → ℕ → ℕ) → (ℕ → ℕ → List ℕ) → ℕ → ℕ → Line
line setting O V i t = record {
  units_seen = seen setting O i (suc t) - seen setting O i t;
  order = O i (suc t) - O i t;
  units_made = made setting O V i (suc t) - made setting O V i t;
  stock = stock setting O V i (suc t);
  owed = owed setting V i (suc t);
  due = due setting O V i (suc t);
  cost = (spec_at setting i).holding * stock setting O V i (suc t) + (spec_at setting i).stockout * owed setting V i (suc t);
}

-- ---- what valid networks keep
-- a source is outside, or a later node on which the node has this one claim
abbrev pub IsSource : List NodeSpec → ℕ → ℕ → Option ℕ → Type 0
IsSource nodes i order_lead None = ⊤
IsSource nodes i order_lead (Some k) = (i < k) × (k < length nodes) × ((f : ℕ → ℕ) (t : ℕ) → claims_of f k t (node_at nodes i).sources ≡ f (before order_lead t) ∷ [])

abbrev pub IsShaped : List NodeSpec → Type 0
IsShaped nodes = (i : ℕ) → i < length nodes → All (λ (l : Link). IsSource nodes i l.order_lead l.from) (node_at nodes i).sources

-- what may come to a node, and what it may order, by the claims of constant orders
pub record IsLoaded (net : Network) : Type 0 where
  pub need_is : (i : ℕ) → i < length net.nodes →
      need_most net i ≡ net.periods * top_of (node_at net.nodes i).demand + total (claims_on net.nodes (λ j t. order_limit net j) i 0)
  pub limit_is : (i : ℕ) → i < length net.nodes →
      order_limit net i ≡ order_most (node_at net.nodes i).rule net.periods (need_most net i + (node_at net.nodes i).initial) (echelon_sum net.nodes i (own_load net) (suc i))
  pub light : (i : ℕ) → i < length net.nodes → (node_at net.nodes i).initial + need_most net i + order_limit net i ≤ 10 ^ 12
