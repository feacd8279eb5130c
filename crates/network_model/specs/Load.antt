-- The load of a node: what it holds, what may reach it, and what it may order, in all periods.
use Rattle.std.specs.Prelude.{ℕ, zero, suc, ◌+◌, ◌*◌, List, [], ◌∷◌, ◌++◌, length, cond, nat_le, Option, option_map}
use Rattle.network_model.specs.declared.network.Network.{Network}
use Rattle.network_model.specs.declared.network.NodeSpec.{NodeSpec}
use Rattle.network_model.specs.declared.network.Link.{Link}
use Rattle.network_model.specs.declared.network.Rule.{Rule}
use Rattle.network_model.specs.declared.network.Rule.TheVariants.{Base, MinMax, Lot, Echelon, House}
use Rattle.network_model.specs.Limits.{most_load}
use Rattle.network_model.specs.Nodes.{node_at, is_from, peak_of, top_of, first_failing}
use Rattle.network_model.specs.Shape.{is_below}

-- an amount for each source that is node k
abbrev pub claimed : ℕ → ℕ → List Link → ℕ
claimed k amount [] = 0
claimed k amount (l ∷ ls) = cond (is_from k l.from) amount 0 + claimed k amount ls

-- the orders of listed nodes that go to node k
abbrev pub reaching : ℕ → List ℕ → List NodeSpec → ℕ
reaching k [] nodes = 0
reaching k (o ∷ os) [] = 0
reaching k (o ∷ os) (n ∷ ns) = claimed k o n.sources + reaching k os ns

-- the most that may be demanded of node k, by its customers and by nodes that may order so much
abbrev pub need_by : Network → List ℕ → ℕ → ℕ
need_by net orders k = net.periods * top_of (node_at net.nodes k).demand + reaching k orders net.nodes

-- the sum over node k and all nodes below it, among the first j
abbrev pub echelon_sum : List NodeSpec → ℕ → (ℕ → ℕ) → ℕ → ℕ
echelon_sum nodes k f zero = 0
echelon_sum nodes k f (suc j) = echelon_sum nodes k f j + cond (is_below nodes k j) (f j) 0

-- the initial stock of a node and all that its customers may demand
abbrev pub own_load : Network → ℕ → ℕ
own_load net j = net.periods * top_of (node_at net.nodes j).demand + (node_at net.nodes j).initial

-- the most that a rule may order: up to its peak, and what the position loses
abbrev pub order_most : Rule → ℕ → ℕ → ℕ → ℕ
order_most (Base level) periods lost lost_below = lost + peak_of (Base level)
order_most (MinMax low high) periods lost lost_below = lost + peak_of (MinMax low high)
order_most (Lot reorder lot) periods lost lost_below = lost + peak_of (Lot reorder lot)
order_most (Echelon level) periods lost lost_below = lost_below + peak_of (Echelon level)
order_most (House index cap) periods lost lost_below = periods * cap

abbrev pub order_most_at : Network → List ℕ → ℕ → ℕ
order_most_at net orders k =
    order_most (node_at net.nodes k).rule net.periods
    (need_by net orders k + (node_at net.nodes k).initial)
    (echelon_sum net.nodes k (own_load net) (suc k))

-- the most that each of the first n nodes may order
abbrev pub orders_most : Network → ℕ → List ℕ
orders_most net zero = []
orders_most net (suc n) = orders_most net n ++ order_most_at net (orders_most net n) n ∷ []

abbrev pub need_most : Network → ℕ → ℕ
need_most net k = need_by net (orders_most net k) k

abbrev pub order_limit : Network → ℕ → ℕ
order_limit net k = order_most_at net (orders_most net k) k

abbrev pub load : Network → ℕ → ℕ
load net k = (node_at net.nodes k).initial + need_most net k + order_limit net k

-- the first node, from 1, whose load is too large
unfoldable pub overloaded_node : Network → Option ℕ
overloaded_node net = option_map suc (first_failing (λ k. nat_le (load net k) most_load) (length net.nodes))
