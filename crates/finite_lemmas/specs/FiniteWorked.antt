-- Worked instances of the definitions: two periods of demand 0 or 1, each as likely, a setup cost of 1, and 3 for each unit that lacks.
use Rattle.std.proofs.Common.{◌≡◌, ℕ, ℤ, pos, negsuc, List, [], ◌∷◌, refl}
use Rattle.std.specs.Prelude.{Option, None, Some}
use Rattle.fraction128.specs.Reduced.{common_divisor_upto}
use Rattle.decision_model.specs.declared.finite.Finite.{Finite}
use Rattle.decision_model.specs.FiniteProblem.{finite_problem}
use Rattle.decision_model.specs.Policies.{expected}
use Rattle.decision_model.specs.Stock.{stock_cost}
use Rattle.newsvendor.specs.Least.{first_least_upto}
use Rattle.value_cert.specs.FiniteRules.{finite_choices, finite_num, finite_den, solved_finite}
use Rattle.value_cert.specs.FiniteValues.{scale, stock_scale, lead_law, cost_after, end_value, least_choice, least_values, policy_of}
use Rattle.value_cert.specs.declared.cert.Cert.TheVariants as cert
use Rattle.value_cert.specs.declared.finite.FiniteCell.{FiniteCell}
use Rattle.value_cert.specs.declared.finite.FiniteRow.{FiniteRow}

-- the instance, at a lead time, a discount and a greatest order
abbrev two : ℕ → ℕ → ℕ → Option ℕ → Finite
two lead num den most = record {
  periods = 2;
  lead = lead;
  setup = 1;
  unit = 0;
  holding = 1;
  stockout = 3;
  end_holding = 0;
  end_stockout = 0;
  discount_num = num;
  discount_den = den;
  laws = (1 ∷ 1 ∷ []) ∷ [];
  cap = pos 2;
  start = pos 0;
  most = most;
}

-- a position, what it orders up to, and its value
abbrev cell : ℤ → ℤ → ℤ → FiniteCell
cell at to value = record { at = at; to = to; value = value }

-- the cells of a period
abbrev row : ℕ → List FiniteCell → FiniteRow
row period cells = record { period = period; cells = cells }

-- the solver's certificate
solved_two : solved_finite (two 0 1 1 None) ≡ record {
  discount_num = 1;
  discount_den = 1;
  rows = row 2 (cell (pos 2) (pos 2) (pos 3) ∷ cell (pos 1) (pos 1) (pos 1) ∷ cell (pos 0) (pos 0) (pos 3) ∷ cell (negsuc 0) (pos 1) (pos 3) ∷ [])
      ∷ row 1 (cell (pos 2) (pos 2) (pos 10) ∷ cell (pos 1) (pos 1) (pos 6) ∷ cell (pos 0) (pos 1) (pos 10) ∷ [])
      ∷ [];
}
unfolding scale stock_scale lead_law cost_after end_value least_choice least_values stock_cost first_least_upto
solved_two = refl

-- its cost in lowest terms, 10 over 4
cost_two : (finite_num (two 0 1 1 None) (cert.Finite (solved_finite (two 0 1 1 None))) ≡ pos 5) × (finite_den (two 0 1 1 None) (cert.Finite (solved_finite (two 0 1 1 None))) ≡ 2)
unfolding scale stock_scale lead_law cost_after end_value least_choice least_values stock_cost first_least_upto common_divisor_upto
cost_two = (refl, refl)

-- .. which is what its policy costs along all demands
pays_two : expected (finite_problem (two 0 1 1 None)) (policy_of (finite_choices (solved_finite (two 0 1 1 None))) 1 (pos 0)) ≡ pos 10
unfolding scale stock_scale lead_law cost_after end_value least_choice least_values stock_cost first_least_upto
pays_two = refl

-- the values of a period from the cap down to 0
abbrev values : Finite → ℕ → ℕ → List ℤ
values finite n t = least_values finite n t (pos 2) ∷ least_values finite n t (pos 1) ∷ least_values finite n t (pos 0) ∷ []

-- with discount 1/2
halved_two : (values (two 0 1 2 None) 1 2 ≡ pos 6 ∷ pos 2 ∷ pos 6 ∷ []) × (least_values (two 0 1 2 None) 1 2 (negsuc 0) ≡ pos 6) × (values (two 0 1 2 None) 2 1 ≡ pos 32 ∷ pos 16 ∷ pos 32 ∷ [])
unfolding scale stock_scale lead_law cost_after end_value least_choice least_values stock_cost first_least_upto
halved_two = (refl, refl, refl)

-- its cost in lowest terms, 32 over 16
halved_cost : (finite_num (two 0 1 2 None) (cert.Finite (solved_finite (two 0 1 2 None))) ≡ pos 2) × (finite_den (two 0 1 2 None) (cert.Finite (solved_finite (two 0 1 2 None))) ≡ 1)
unfolding scale stock_scale lead_law cost_after end_value least_choice least_values stock_cost first_least_upto common_divisor_upto
halved_cost = (refl, refl)

-- with a lead time of 1
led_two : values (two 1 1 1 None) 2 1 ≡ pos 16 ∷ pos 20 ∷ pos 24 ∷ []
unfolding scale stock_scale lead_law cost_after end_value least_choice least_values stock_cost first_least_upto
led_two = refl

-- with orders of at most 1: from -1 to 0 alone
capped_two : (least_choice (two 0 1 1 (Some 1)) (least_values (two 0 1 1 (Some 1)) 0 3) 0 2 (negsuc 0) ≡ pos 0) × (least_values (two 0 1 1 (Some 1)) 1 2 (negsuc 0) ≡ pos 5)
unfolding scale stock_scale lead_law cost_after end_value least_choice least_values stock_cost first_least_upto
capped_two = (refl, refl)
