-- The serial kind as a decision problem: its state is the list of echelon stocks before the orders, its choice the list
-- after them. Echelons count from 0 here, the one that faces demand first.
use Rattle.std.specs.Prelude.{ℕ, suc, ◌+◌, ◌-◌, ◌==◌, ℤ, pos, ◌+ℤ◌, ◌-ℤ◌, ◌*ℤ◌, int_le, Bool, true, false, ◌&&◌, List, [], ◌∷◌, length, map, sum, slice_index_or}
use Rattle.demand_law.specs.Sequences.{law_at}
use Rattle.decision_model.specs.declared.serial.Serial.{Serial}
use Rattle.decision_model.specs.Policies.{Problem}
use Rattle.decision_model.specs.Positions.{above_zero}
use Rattle.decision_model.specs.Serial.{serial_low}

-- ---- rates
-- the law of period t, from 1
abbrev pub law_of_period : Serial → ℕ → List ℕ
law_of_period serial t = law_at serial.laws (t - 1)

-- what a unit of an echelon's stock costs in a period
abbrev pub holding_of : Serial → ℕ → ℕ
holding_of serial i = slice_index_or serial.holding i 0

-- what a unit that enters an echelon costs
abbrev pub unit_of : Serial → ℕ → ℕ
unit_of serial i = slice_index_or serial.unit i 0

-- what a unit that lacks costs: an echelon stock counts it as held by none of the echelons
unfoldable pub lacking_rate : Serial → ℕ
lacking_rate serial = serial.stockout + sum serial.holding

-- ---- states
-- the sum over the echelons from i on, each with its stock
abbrev pub over_echelons : (ℕ → ℤ → ℤ) → ℕ → List ℤ → ℤ
over_echelons f i [] = pos 0
over_echelons f i (x ∷ xs) = f i x +ℤ over_echelons f (suc i) xs

-- the sum over the echelons from i on, each with its stock before and after the orders
abbrev pub over_orders : (ℕ → ℤ → ℤ → ℤ) → ℕ → List ℤ → List ℤ → ℤ
over_orders f i [] ys = pos 0
over_orders f i (x ∷ xs) [] = pos 0
over_orders f i (x ∷ xs) (y ∷ ys) = f i x y +ℤ over_orders f (suc i) xs ys

-- what an echelon may order up to: the stock of the next one, and the cap at the last
abbrev pub limit : ℤ → List ℤ → ℤ
limit cap [] = cap
limit cap (x ∷ xs) = x

-- stocks from a low end to a cap that never fall
abbrev pub are_ordered : ℤ → ℤ → List ℤ → Bool
are_ordered low cap [] = int_le low cap
are_ordered low cap (x ∷ xs) = int_le low x && are_ordered x cap xs

-- each echelon orders up to a stock from its own to that of the next one
abbrev pub are_allowed : ℤ → List ℤ → List ℤ → Bool
are_allowed cap [] [] = true
are_allowed cap [] (y ∷ ys) = false
are_allowed cap (x ∷ xs) [] = false
are_allowed cap (x ∷ xs) (y ∷ ys) = int_le x y && (int_le y (limit cap xs) && are_allowed cap xs ys)

-- all stocks after a demand
abbrev pub after_demand : List ℤ → ℕ → List ℤ
after_demand ys d = map (λ y. y -ℤ pos d) ys

-- ---- costs
-- what the echelons' stocks cost after a demand
abbrev pub stocks_cost : Serial → List ℤ → ℕ → ℤ
stocks_cost serial xs d = over_echelons (λ i x. pos (holding_of serial i) *ℤ (x -ℤ pos d)) 0 xs

-- what lacks after a demand costs
abbrev pub lacking_cost : Serial → List ℤ → ℕ → ℤ
lacking_cost serial xs d = pos (lacking_rate serial) *ℤ pos (above_zero (pos d -ℤ slice_index_or xs 0 (pos 0)))

-- what the orders cost
abbrev pub orders_cost : Serial → List ℤ → List ℤ → ℤ
orders_cost serial xs ys = over_orders (λ i x y. pos (unit_of serial i) *ℤ (y -ℤ x)) 0 xs ys

-- what a period costs; orders come a period later, and so demand meets the stocks before them
abbrev pub period_cost : Serial → List ℤ → List ℤ → ℕ → ℤ
period_cost serial xs ys d = stocks_cost serial xs d +ℤ lacking_cost serial xs d +ℤ orders_cost serial xs ys

abbrev pub serial_problem : Serial → Problem (List ℤ)
serial_problem serial = record {
  horizon = serial.periods;
  lookahead = 0;
  discount_num = serial.discount_num;
  discount_den = serial.discount_den;
  law = law_of_period serial;
  start = serial.start;
  grid = λ t xs. (length xs == length serial.holding) && are_ordered (serial_low serial t) serial.cap xs;
  allows = λ t xs ys. are_allowed serial.cap xs ys;
  next = λ xs ys d. after_demand ys d;
  cost = λ t xs ys ds. period_cost serial xs ys (slice_index_or ds 0 0);
  end_cost = λ xs. pos 0;
}
