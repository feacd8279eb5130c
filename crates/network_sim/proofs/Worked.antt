-- Worked rows, by the definitions.
use Rattle.std.proofs.Common.{◌≡◌, map, ℕ, ◌+◌, ◌*◌, min, max, pos, ◌-ℤ◌, [], ◌∷◌, ◌++◌, List, Option, Some, None, refl}
use Rattle.network_model.specs.declared.network.Network.{Network}
use Rattle.network_model.specs.declared.network.NodeSpec.{NodeSpec}
use Rattle.network_model.specs.declared.network.Link.{Link}
use Rattle.network_model.specs.declared.network.Rule.{Rule}
use Rattle.network_model.specs.declared.network.Rule.TheVariants.{Base, MinMax, Lot, Echelon, House}
use Rattle.network_model.specs.declared.network.Demand.{Demand}
use Rattle.network_model.specs.declared.network.Demand.TheVariants.{Nobody, Trace, Drawn}
use Rattle.network_model.specs.declared.network.Pause.{Pause}
use Rattle.network_model.specs.declared.network.Pause.TheVariants.{Orders, Shipments, Receipts}
use Rattle.model_terms.specs.Positions.{above_zero}
use Rattle.demand_law.specs.Picked.{picked}
use Rattle.node_state.specs.Handed.{Ask, Handed}
use Rattle.node_state.specs.Totals.{Line}
use Rattle.network_sim.specs.declared.errors.SimErr.TheVariants.{NoRule, RuleShared, RuleCap}
use Rattle.network_sim.specs.Houses.{rules_refusal, period_over}
use Rattle.network_sim.specs.Examples.{greedy}
use Rattle.node_state.specs.Table.{network_row, network_total, setting_of, orders_of_run, served_of_run}
use Rattle.node_state.specs.Stands.{at_rest}

abbrev link : Option ℕ → ℕ → ℕ → Link
link from lead order_lead = record { from = from; lead = lead; order_lead = order_lead }

abbrev made_of : ℕ → ℕ → ℕ → Rule → List Link → Demand → NodeSpec
made_of initial holding stockout rule sources demand = record { name = []; initial = initial; holding = holding; stockout = stockout; rule = rule; sources = sources; demand = demand }

abbrev line_of : ℕ → ℕ → ℕ → ℕ → ℕ → ℕ → ℕ → Line
line_of s o m k w d c = record { units_seen = s; order = o; units_made = m; stock = k; owed = w; due = d; cost = c }

-- ---- a shop with a lead time of one period
abbrev shop : Network
shop = record { periods = 3; seed = None; nodes = made_of 5 1 10 (Base (pos 5)) (link None 1 0 ∷ []) (Trace (2 ∷ 4 ∷ 0 ∷ [])) ∷ []; pauses = [] }

shop_1 : network_row shop [] 0 ≡ line_of 2 2 0 3 0 0 3 ∷ []
shop_1 = refl

shop_2 : network_row shop [] 1 ≡ line_of 4 4 2 1 0 0 1 ∷ []
shop_2 = refl

shop_3 : network_row shop [] 2 ≡ line_of 0 0 4 5 0 0 5 ∷ []
shop_3 = refl

shop_total : network_total shop [] 3 ≡ 9
shop_total = refl

-- a pause in the second period
abbrev paused : Pause → Network
paused what = record shop { pauses = record { node = 0; what = what; from = 2; to = 2 } ∷ [] }

no_receipts_2 : network_row (paused Receipts) [] 1 ≡ line_of 4 4 0 0 1 0 10 ∷ []
no_receipts_2 = refl

no_receipts_3 : network_row (paused Receipts) [] 2 ≡ line_of 0 0 6 5 0 0 5 ∷ []
no_receipts_3 = refl

no_shipments_2 : network_row (paused Shipments) [] 1 ≡ line_of 4 4 2 5 4 0 45 ∷ []
no_shipments_2 = refl

no_orders_2 : network_row (paused Orders) [] 1 ≡ line_of 4 0 2 1 0 0 1 ∷ []
no_orders_2 = refl

no_orders_3 : network_row (paused Orders) [] 2 ≡ line_of 0 4 0 1 0 0 1 ∷ []
no_orders_3 = refl

-- ---- two shops without demand that fill up from one store
abbrev two_shops : Network
two_shops = record {
  periods = 1;
  seed = None;
  nodes =
      made_of 0 1 5 (Base (pos 2)) (link (Some 2) 0 0 ∷ []) Nobody ∷
      made_of 0 1 5 (Base (pos 2)) (link (Some 2) 0 0 ∷ []) Nobody ∷
      made_of 3 1 0 (Base (pos 0)) (link None 1 0 ∷ []) Nobody ∷ [];
  pauses = [];
}

two_shops_1 : network_row two_shops [] 0 ≡ line_of 0 2 2 2 0 0 2 ∷ line_of 0 2 1 1 0 0 1 ∷ line_of 4 1 0 0 0 1 0 ∷ []
two_shops_1 = refl

-- ---- a store that looks at its echelon
abbrev chain : Network
chain = record {
  periods = 1;
  seed = None;
  nodes =
      made_of 2 1 5 (Base (pos 2)) (link (Some 1) 1 0 ∷ []) (Trace (1 ∷ [])) ∷
      made_of 3 1 0 (Echelon (pos 5)) (link None 1 0 ∷ []) Nobody ∷ [];
  pauses = [];
}

chain_1 : network_row chain [] 0 ≡ line_of 1 1 0 1 0 0 1 ∷ line_of 1 1 0 2 0 0 2 ∷ []
chain_1 = refl

-- ---- other rules
abbrev ruled : Rule → ℕ → Network
ruled rule order_lead = record shop { nodes = made_of 5 1 10 rule (link None 1 order_lead ∷ []) (Trace (4 ∷ 0 ∷ 0 ∷ [])) ∷ [] }

lots_1 : network_row (ruled (Lot (pos 2) 3) 0) [] 0 ≡ line_of 4 3 0 1 0 0 1 ∷ []
lots_1 = refl

lots_3 : network_row (ruled (Lot (pos 2) 3) 0) [] 2 ≡ line_of 0 0 0 4 0 0 4 ∷ []
lots_3 = refl

min_max_2 : network_row (ruled (MinMax (pos 1) (pos 6)) 0) [] 1 ≡ line_of 0 0 5 6 0 0 6 ∷ []
min_max_2 = refl

-- orders that take a period
abbrev late : Network
late = record shop { nodes = made_of 5 1 10 (Base (pos 5)) (link None 1 1 ∷ []) (Trace (2 ∷ 4 ∷ 0 ∷ [])) ∷ [] }

late_2 : network_row late [] 1 ≡ line_of 4 4 0 0 1 0 10 ∷ []
late_2 = refl

late_3 : network_row late [] 2 ≡ line_of 0 0 2 1 0 0 1 ∷ []
late_3 = refl

-- ---- an assembly of two parts
abbrev assembly : Network
assembly = record {
  periods = 1;
  seed = None;
  nodes =
      made_of 0 1 5 (Base (pos 2)) (link (Some 1) 0 0 ∷ link (Some 2) 0 0 ∷ []) (Trace (1 ∷ [])) ∷
      made_of 5 0 0 (Base (pos 0)) (link None 1 0 ∷ []) Nobody ∷
      made_of 1 0 0 (Base (pos 0)) (link None 1 0 ∷ []) Nobody ∷ [];
  pauses = [];
}

assembly_1 : network_row assembly [] 0 ≡ line_of 1 3 1 0 0 0 0 ∷ line_of 3 0 0 2 0 0 0 ∷ line_of 3 2 0 0 0 2 0 ∷ []
assembly_1 = refl

-- the left part, of which one more came than of the right one
assembly_raw : map (λ l. l.raw) (at_rest (setting_of assembly []) (orders_of_run (setting_of assembly [])) (served_of_run (setting_of assembly [])) 1 0).legs ≡ 2 ∷ 0 ∷ []
assembly_raw = refl

-- ---- rules of the caller's own
abbrev house_shop : List ℕ → Rule → Network
house_shop demands rule = record shop { nodes = made_of 5 1 10 rule (link None 1 0 ∷ []) (Trace demands) ∷ [] }

-- its level is raised to twice the units seen where these are more
abbrev step_replies : ℕ → List Ask → List ℕ
step_replies level [] = []
step_replies level (a ∷ more) =
    min 10000 (above_zero (pos (max level (2 * a.seen)) -ℤ a.position)) ∷ step_replies (max level (2 * a.seen)) more

abbrev step : Handed
step = record { most = 10000; replies = step_replies 10 }

-- it keeps the units seen in the last four periods, and its level is twice their sum
abbrev window_replies : ℕ → ℕ → ℕ → List Ask → List ℕ
window_replies a b c [] = []
window_replies a b c (d ∷ more) = min 10000 (above_zero (pos (2 * (a + b + c + d.seen)) -ℤ d.position)) ∷ window_replies b c d.seen more

abbrev recent : Handed
recent = record { most = 10000; replies = window_replies 0 0 0 }

steps_1 : network_row (house_shop (2 ∷ 4 ∷ 0 ∷ []) (House 0 10000)) (step ∷ []) 0 ≡ line_of 2 7 0 3 0 0 3 ∷ []
steps_1 = refl

steps_2 : network_row (house_shop (2 ∷ 4 ∷ 0 ∷ []) (House 0 10000)) (step ∷ []) 1 ≡ line_of 4 4 7 6 0 0 6 ∷ []
steps_2 = refl

steps_3 : network_row (house_shop (2 ∷ 4 ∷ 0 ∷ []) (House 0 10000)) (step ∷ []) 2 ≡ line_of 0 0 4 10 0 0 10 ∷ []
steps_3 = refl

-- the rule is the second of those that are handed in
recent_2 : network_row (house_shop (2 ∷ 4 ∷ 0 ∷ []) (House 1 10000)) (step ∷ recent ∷ []) 1 ≡ line_of 4 12 1 0 0 0 0 ∷ []
recent_2 = refl

recent_3 : network_row (house_shop (2 ∷ 4 ∷ 0 ∷ []) (House 1 10000)) (step ∷ recent ∷ []) 2 ≡ line_of 0 0 12 12 0 0 12 ∷ []
recent_3 = refl

-- an answer above the rule's cap ends the run in the third period, also where orders pause then
greedy_over : period_over (setting_of (house_shop (1 ∷ 1 ∷ 1 ∷ []) (House 0 10)) (greedy 0 ∷ [])) 2 ≡ Some (record { node = 1; answer = 11; cap = 10 })
greedy_over = refl

greedy_paused : period_over (setting_of (record (house_shop (1 ∷ 1 ∷ 1 ∷ []) (House 0 10)) { pauses = record { node = 0; what = Orders; from = 1; to = 3 } ∷ [] }) (greedy 0 ∷ [])) 2 ≡ Some (record { node = 1; answer = 11; cap = 10 })
greedy_paused = refl

greedy_within : period_over (setting_of (house_shop (1 ∷ 1 ∷ 1 ∷ []) (House 0 10)) (greedy 0 ∷ [])) 1 ≡ None
greedy_within = refl

-- rules that don't fit
not_there : rules_refusal (house_shop [] (House 1 10)).nodes (greedy 0 ∷ []) ≡ Some (NoRule 1)
not_there = refl

too_large : rules_refusal (house_shop [] (House 0 9)).nodes (greedy 0 ∷ []) ≡ Some (RuleCap 0)
too_large = refl

shared : rules_refusal ((house_shop [] (House 0 10)).nodes ++ (house_shop [] (House 0 10)).nodes) (greedy 0 ∷ []) ≡ Some (RuleShared 0)
shared = refl

-- ---- drawn demand
-- half of the words pick each of two demands
picks_first : picked (1 ∷ 0 ∷ 1 ∷ []) 2147483647 ≡ 0
picks_first = refl

picks_last : picked (1 ∷ 0 ∷ 1 ∷ []) 2147483648 ≡ 2
picks_last = refl

abbrev drawn_shop : Network
drawn_shop = record shop { seed = Some 7; nodes = made_of 5 1 10 (Base (pos 5)) (link None 1 0 ∷ []) (Drawn (0 ∷ 0 ∷ 1 ∷ [])) ∷ [] }

drawn_1 : network_row drawn_shop [] 0 ≡ line_of 2 2 0 3 0 0 3 ∷ []
drawn_1 = refl

drawn_2 : network_row drawn_shop [] 1 ≡ line_of 2 2 2 3 0 0 3 ∷ []
drawn_2 = refl

-- by the words of seed 7
abbrev four : Network
four = record drawn_shop { nodes = made_of 5 1 10 (Base (pos 5)) (link None 1 0 ∷ []) (Drawn (1 ∷ 1 ∷ 1 ∷ 1 ∷ [])) ∷ [] }

four_1 : network_row four [] 0 ≡ line_of 2 2 0 3 0 0 3 ∷ []
four_1 = refl
