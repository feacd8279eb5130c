-- The lot plan of the solver, by the recursion over last order periods of Wagner and Whitin (1958). Periods are places of lists, from 0.
use Rattle.std.specs.Prelude.{ℕ, zero, suc, ◌+◌, ◌-◌, List, [], ◌∷◌, ◌++◌, length, slice_index, slice_index_or, sum, take, drop, map, replicate, nat_le, ◌==◌, if◌then◌else◌}
use Rattle.std.specs.List.{range_with_len, sum_by}
use Rattle.decision_model.specs.declared.lots.LotSize.{LotSize}
use Rattle.value_cert.specs.LotPlans.{serving_cost}
use Rattle.value_cert.specs.declared.lots.LotCert.{LotCert}

-- the cost of an order in period t that serves the periods from t to s
abbrev pub order_cost : LotSize → ℕ → ℕ → ℕ
order_cost item t s = slice_index item.setup t + sum_by (serving_cost item t) (range_with_len t (s + 1 - t))

-- the cost up to period s with the last order in period t, from the costs of the first 0, 1, 2, .. periods
abbrev pub cost_by : LotSize → List ℕ → ℕ → ℕ → ℕ
cost_by item costs s t = slice_index costs t + order_cost item t s

-- the latest of the numbers up to n at which the cost is least
unfoldable pub latest_least_upto : (ℕ → ℕ) → ℕ → ℕ
latest_least_upto cost zero = 0
latest_least_upto cost (suc n) = let t = latest_least_upto cost n in if nat_le (cost (suc n)) (cost t) then suc n else t

-- the cost up to period s: that of the periods before s where s has no demand, else the least over the last order period
abbrev pub next_cost : LotSize → List ℕ → ℕ → ℕ
next_cost item costs s =
    if slice_index item.demand s == 0 then slice_index costs s
    else cost_by item costs s (latest_least_upto (cost_by item costs s) s)

-- the least costs of the first 0, 1, .., n periods
unfoldable pub least_costs : LotSize → ℕ → List ℕ
least_costs item zero = 0 ∷ []
least_costs item (suc s) = let costs = least_costs item s in costs ++ next_cost item costs s ∷ []

-- the least cost of the first n periods
abbrev pub least_cost : LotSize → ℕ → ℕ
least_cost item n = slice_index (least_costs item n) n

-- the last order period of a least plan up to period s, the latest one if there are several
abbrev pub last_order : LotSize → ℕ → ℕ
last_order item s = latest_least_upto (cost_by item (least_costs item s) s) s

-- the orders of the periods from t to s: all their demand in period t
abbrev pub one_order : LotSize → ℕ → ℕ → List ℕ
one_order item t s = sum (take (s + 1 - t) (drop t item.demand)) ∷ replicate (s - t) 0

-- the orders up to period s, read backwards, from those of the first 0, 1, 2, .. periods: none in s where it has no demand, else one in its last order period
abbrev pub next_orders : LotSize → List (List ℕ) → ℕ → List ℕ
next_orders item plans s =
    if slice_index item.demand s == 0 then slice_index_or plans s [] ++ 0 ∷ []
    else slice_index_or plans (last_order item s) [] ++ one_order item (last_order item s) s

-- the orders of the first 0, 1, .., n periods
unfoldable pub least_plans : LotSize → ℕ → List (List ℕ)
least_plans item zero = [] ∷ []
least_plans item (suc s) = let plans = least_plans item s in plans ++ next_orders item plans s ∷ []

-- the orders of the first n periods
abbrev pub least_plan : LotSize → ℕ → List ℕ
least_plan item n = slice_index_or (least_plans item n) n []

-- what the demand of period s adds to the least cost
abbrev pub added_cost : LotSize → ℕ → ℕ
added_cost item s = least_cost item (s + 1) - least_cost item s

-- the certificate of a lot plan
unfoldable pub solved_lots : LotSize → LotCert
solved_lots item =
    let periods = length item.demand in
    record {
      orders = least_plan item periods;
      duals = map (added_cost item) (range_with_len 0 periods);
      cost = least_cost item periods;
    }
