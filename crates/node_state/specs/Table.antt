-- The network's table, by recursion over periods with all earlier ones at hand.
use Rattle.std.specs.Prelude.{ℕ, zero, suc, ◌+◌, ◌-◌, List, [], ◌∷◌, ◌++◌, length}
use Rattle.std.proofs.Common.{get_or}
use Rattle.node_state.specs.Holdings.{zeros}
use Rattle.node_state.specs.Totals.{Setting, Line, orders_next, served_next, all_claims, line}
use Rattle.network_model.specs.declared.network.Network.{Network}
use Rattle.network_model.specs.declared.network.NodeSpec.{NodeSpec}
use Rattle.node_state.specs.Draws.{own_demand}
use Rattle.node_state.specs.Handed.{Handed}

-- totals of all nodes at one period
pub record Period : Type 0 where
  pub orders : List ℕ
  pub served : List (List ℕ)

abbrev pub nothing : Period
nothing = record { orders = []; served = [] }

-- the orders of period s by a table whose first period is t
abbrev pub orders_at : List Period → ℕ → ℕ → ℕ → ℕ
orders_at table t i s = get_or (get_or table (t - s) nothing).orders i 0

abbrev pub served_at : List Period → ℕ → ℕ → ℕ → List ℕ
served_at table t i s = get_or (get_or table (t - s) nothing).served i []

-- the orders of the first i nodes in period suc t
abbrev pub orders_of_first : Setting → List Period → ℕ → ℕ → List ℕ
orders_of_first setting table t zero = []
orders_of_first setting table t (suc i) =
    let xs = orders_of_first setting table t i in
    xs ++ orders_next setting (orders_at (record { orders = xs; served = [] } ∷ table) (suc t)) i t ∷ []

-- the served totals of the nodes from place i on, in period suc t; what stands before them is empty
abbrev pub empties : ℕ → List (List ℕ)
empties zero = []
empties (suc n) = [] ∷ empties n

abbrev pub served_from : Setting → List Period → ℕ → List ℕ → ℕ → List NodeSpec → List (List ℕ)
served_from setting table t orders i [] = []
served_from setting table t orders i (s ∷ ss) =
    let above = served_from setting table t orders (suc i) ss in
    let known = record { orders = orders; served = empties (suc i) ++ above } ∷ table in
    served_next setting (orders_at known (suc t)) (served_at known (suc t)) i t ∷ above

abbrev pub first_served : Setting → ℕ → List NodeSpec → List (List ℕ)
first_served setting i [] = []
first_served setting i (s ∷ ss) = zeros (length (all_claims setting (λ j t. 0) i 0)) ∷ first_served setting (suc i) ss

-- periods t to 0
abbrev pub table : Setting → ℕ → List Period
table setting zero = record { orders = zeros (length setting.network.nodes); served = first_served setting 0 setting.network.nodes } ∷ []
table setting (suc t) =
    let before = table setting t in
    let orders = orders_of_first setting before t (length setting.network.nodes) in
    record { orders = orders; served = served_from setting before t orders 0 setting.network.nodes } ∷ before

abbrev pub period_at : Setting → ℕ → Period
period_at setting t = get_or (table setting t) 0 nothing

-- the network's orders and served totals
abbrev pub orders_of_run : Setting → ℕ → ℕ → ℕ
orders_of_run setting i t = get_or (period_at setting t).orders i 0

abbrev pub served_of_run : Setting → ℕ → ℕ → List ℕ
served_of_run setting i t = get_or (period_at setting t).served i []

-- ---- rows
-- the lines of the nodes from place i on, in period suc t
abbrev pub lines_from : Setting → ℕ → ℕ → List NodeSpec → List Line
lines_from setting t i [] = []
lines_from setting t i (s ∷ ss) = line setting (orders_of_run setting) (served_of_run setting) i t ∷ lines_from setting t (suc i) ss

-- the row of period suc t
abbrev pub row : Setting → ℕ → List Line
row setting t = lines_from setting t 0 setting.network.nodes

abbrev pub costs : List Line → ℕ
costs [] = 0
costs (l ∷ ls) = l.cost + costs ls

-- the costs of the first n periods
abbrev pub total_cost : Setting → ℕ → ℕ
total_cost setting zero = 0
total_cost setting (suc n) = total_cost setting n + costs (row setting n)

-- ---- a network alone: its customers demand what it states or what is drawn
abbrev pub setting_of : Network → List Handed → Setting
setting_of net handed = record { network = net; demand = own_demand net; handed = handed }

-- the row of period suc t, and the costs of the first n periods
abbrev pub network_row : Network → List Handed → ℕ → List Line
network_row net handed t = row (setting_of net handed) t

abbrev pub network_total : Network → List Handed → ℕ → ℕ
network_total net handed n = total_cost (setting_of net handed) n
