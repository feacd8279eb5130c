-- The equations of a serial system, after Clark and Scarf (1960): each echelon's part of the least cost, in whole numbers.
-- Echelons count from 0 here. Where n periods follow, the numbers of a period are over scale (n + 1).
use Rattle.std.specs.Prelude.{ℕ, zero, suc, ◌*◌, ◌^◌, ℤ, pos, ◌+ℤ◌, ◌-ℤ◌, ◌*ℤ◌, List, [], ◌∷◌}
use Rattle.std.specs.Int.{int_max, int_min}
use Rattle.demand_law.specs.Law.{weighted}
use Rattle.newsvendor.specs.Least.{first_least_upto}
use Rattle.decision_model.specs.declared.serial.Serial.{Serial}
use Rattle.decision_model.specs.DemandLaws.{common_total}
use Rattle.decision_model.specs.Policies.{Policy}
use Rattle.decision_model.specs.Positions.{positions_from, above_zero}
use Rattle.decision_model.specs.Serial.{serial_low}
use Rattle.decision_model.specs.SerialProblem.{law_of_period, holding_of, unit_of, lacking_rate, after_demand}

-- what values are over, where n periods are left
unfoldable pub scale : Serial → ℕ → ℕ
scale serial n = (serial.discount_den * common_total serial.laws) ^ n

-- the factor on what a demand costs in a period that n periods follow
unfoldable pub demand_scale : Serial → ℕ → ℕ
demand_scale serial n = serial.discount_den ^ suc n * common_total serial.laws ^ n

-- what an echelon's stock costs in a period, at a demand; what lacks is the first one's
abbrev pub own_cost : Serial → ℕ → ℤ → ℕ → ℤ
own_cost serial zero x d =
    pos (holding_of serial 0) *ℤ (x -ℤ pos d) +ℤ pos (lacking_rate serial) *ℤ pos (above_zero (pos d -ℤ x))
own_cost serial (suc i) x d = pos (holding_of serial (suc i)) *ℤ (x -ℤ pos d)

-- .. by the weights of period t, which n periods follow
abbrev pub own : Serial → ℕ → ℕ → ℕ → ℤ → ℤ
own serial n t i x = pos (demand_scale serial n) *ℤ weighted (law_of_period serial t) (own_cost serial i x)

-- what it costs that an echelon orders up to y in period t, which n periods follow, with the values F of the next period
abbrev pub order_cost : Serial → (ℕ → ℤ → ℤ) → ℕ → ℕ → ℕ → ℤ → ℤ
order_cost serial F n t i y =
    pos (scale serial (suc n) * unit_of serial i) *ℤ y
    +ℤ pos serial.discount_num *ℤ weighted (law_of_period serial t) (λ d. F i (y -ℤ pos d))

-- the induced penalty: what an echelon is charged for stock x that keeps the one before it below its level, from the costs
-- C of orders and the levels S
abbrev pub penalty : (ℕ → ℤ → ℤ) → (ℕ → ℤ) → ℕ → ℤ → ℤ
penalty C S zero x = pos 0
penalty C S (suc i) x = C i (int_min x (S i)) -ℤ C i (S i)

-- the value of an echelon's stock in period t, which n periods follow, from the costs C of orders and the levels S
abbrev pub echelon_value : Serial → (ℕ → ℤ → ℤ) → (ℕ → ℤ) → ℕ → ℕ → ℕ → ℤ → ℤ
echelon_value serial C S n t i x =
    own serial n t i x -ℤ pos (scale serial (suc n) * unit_of serial i) *ℤ x +ℤ C i (int_max x (S i)) +ℤ penalty C S i x

-- after the last period no stock has a value
abbrev pub no_values : ℕ → ℤ → ℤ
no_values i x = pos 0

-- the values where n periods are left, from period t on, for given levels
abbrev pub values : Serial → (ℕ → ℕ → ℤ) → ℕ → ℕ → ℕ → ℤ → ℤ
values serial S zero t = no_values
values serial S (suc n) t = echelon_value serial (order_cost serial (values serial S n (suc t)) n t) (S t) n t

-- the costs of orders in period t, which n periods follow, for given levels
abbrev pub order_costs : Serial → (ℕ → ℕ → ℤ) → ℕ → ℕ → ℕ → ℤ → ℤ
order_costs serial S n t = order_cost serial (values serial S n (suc t)) n t

-- ---- the solver's levels
-- the least position from low to cap at which a cost is least
unfoldable pub least_position : ℤ → ℤ → (ℤ → ℤ) → ℤ
least_position low cap cost = low +ℤ pos (first_least_upto (λ k. cost (low +ℤ pos k)) (above_zero (cap -ℤ low)))

-- the levels of period t for costs of orders
abbrev pub levels_for : Serial → (ℕ → ℤ → ℤ) → ℕ → ℕ → ℤ
levels_for serial C t i = least_position (serial_low serial t) serial.cap (C i)

-- the least values where n periods are left, from period t on
abbrev pub solved_values : Serial → ℕ → ℕ → ℕ → ℤ → ℤ
solved_values serial zero t = no_values
solved_values serial (suc n) t =
    echelon_value serial (order_cost serial (solved_values serial n (suc t)) n t) (levels_for serial (order_cost serial (solved_values serial n (suc t)) n t) t) n t

-- the costs of orders in period t, which n periods follow, with the least values after them
abbrev pub solved_costs : Serial → ℕ → ℕ → ℕ → ℤ → ℤ
solved_costs serial n t = order_cost serial (solved_values serial n (suc t)) n t

-- the levels of period t, which n periods follow
abbrev pub solved_level : Serial → ℕ → ℕ → ℕ → ℤ
solved_level serial n t = levels_for serial (solved_costs serial n t) t

-- ---- echelon base-stock policies
-- no more than the stock of the next echelon, if there is one
abbrev pub at_most_next : List ℤ → ℤ → ℤ
at_most_next [] y = y
at_most_next (x ∷ xs) y = int_min y x

-- each echelon from i on orders up to its level, as far as the next one has it
abbrev pub base_stock : (ℕ → ℤ) → ℕ → List ℤ → List ℤ
base_stock S i [] = []
base_stock S i (x ∷ xs) = at_most_next xs (int_max x (S i)) ∷ base_stock S (suc i) xs

-- in each period from t on, by its levels
abbrev pub base_stock_policy : (ℕ → ℕ → ℤ) → ℕ → List ℤ → Policy (List ℤ)
base_stock_policy S t xs [] = base_stock (S t) 0 xs
base_stock_policy S t xs (d ∷ ds) = base_stock_policy S (suc t) (after_demand (base_stock (S t) 0 xs) d) ds

-- how many positions the grid of period t has
abbrev pub row_width : Serial → ℕ → ℕ
row_width serial t = positions_from (serial_low serial t) serial.cap
