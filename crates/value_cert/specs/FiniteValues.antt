-- The equations of a finite horizon, after Scarf (1960): what a position costs at least from a period on, in whole numbers.
-- Where n periods follow, the numbers of a period are over scale (n + 1).
use Rattle.std.specs.Prelude.{ℕ, zero, suc, ◌+◌, ◌-◌, ◌*◌, ◌^◌, ℤ, pos, ◌+ℤ◌, ◌-ℤ◌, ◌*ℤ◌, List, [], ◌∷◌}
use Rattle.demand_law.specs.Law.{weighted}
use Rattle.demand_law.specs.Sequences.{laws_at, law_of_sum}
use Rattle.newsvendor.specs.Least.{first_least_upto}
use Rattle.decision_model.specs.declared.finite.Finite.{Finite}
use Rattle.decision_model.specs.DemandLaws.{common_total}
use Rattle.decision_model.specs.Positions.{positions_from, above_zero}
use Rattle.decision_model.specs.Finite.{finite_low}
use Rattle.decision_model.specs.FiniteProblem.{law_of_period, order_cost, end_cost, top}
use Rattle.decision_model.specs.Policies.{Policy}
use Rattle.decision_model.specs.Stock.{stock_cost}

-- what values are over, where n periods are left
unfoldable pub scale : Finite → ℕ → ℕ
scale finite n = finite.discount_den ^ n * common_total finite.laws ^ (n + finite.lead)

-- the factor on the cost of stock in a period that n periods follow
unfoldable pub stock_scale : Finite → ℕ → ℕ
stock_scale finite n = finite.discount_den ^ suc n * common_total finite.laws ^ n

-- the law of the demands from period t on until its order has come
unfoldable pub lead_law : Finite → ℕ → List ℕ
lead_law finite t = law_of_sum (laws_at finite.laws (t - 1) (suc finite.lead))

-- what a position costs after the order of period t, which n periods follow, with the values F of the next period
unfoldable pub cost_after : Finite → (ℤ → ℤ) → ℕ → ℕ → ℤ → ℤ
cost_after finite F n t y =
    pos (stock_scale finite n) *ℤ stock_cost finite.holding finite.stockout (lead_law finite t) y
    +ℤ pos finite.discount_num *ℤ weighted (law_of_period finite t) (λ d. F (y -ℤ pos d))

-- the value of ordering from x up to y, or of staying there
abbrev pub value_of : Finite → (ℤ → ℤ) → ℕ → ℕ → ℤ → ℤ → ℤ
value_of finite F n t x y = cost_after finite F n t y +ℤ pos (scale finite (suc n)) *ℤ order_cost finite x y

-- the value of a position after the last period
unfoldable pub end_value : Finite → ℤ → ℤ
end_value finite x = pos (common_total finite.laws ^ finite.lead) *ℤ end_cost finite x

-- ---- the solver's choices
-- the first position of least value from x up: x itself where staying costs no more than any order
unfoldable pub least_choice : Finite → (ℤ → ℤ) → ℕ → ℕ → ℤ → ℤ
least_choice finite F n t x =
    x +ℤ pos (first_least_upto (λ units. value_of finite F n t x (x +ℤ pos units)) (above_zero (top finite x -ℤ x)))

-- the least values where n periods are left, from period t on
unfoldable pub least_values : Finite → ℕ → ℕ → ℤ → ℤ
least_values finite zero t x = end_value finite x
least_values finite (suc n) t x =
    value_of finite (least_values finite n (suc t)) n t x (least_choice finite (least_values finite n (suc t)) n t x)

-- ---- policies by period and position
-- the policy that looks at its period and its position alone
abbrev pub policy_of : (ℕ → ℤ → ℤ) → ℕ → ℤ → Policy ℤ
policy_of to t x [] = to t x
policy_of to t x (d ∷ ds) = policy_of to (suc t) (to t x -ℤ pos d) ds

-- how many positions the grid of period t has
abbrev pub row_width : Finite → ℕ → ℕ
row_width finite t = positions_from (finite_low finite t) finite.cap
