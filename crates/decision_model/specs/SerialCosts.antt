-- What the periods of a serial system cost: at least 0, and less than the cost bound.
use Rattle.std.proofs.Common.{◌≡◌, ℕ, suc, ◌+◌, ◌*◌, ◌≤◌, ℤ, pos, negsuc, ◌+ℤ◌, ◌-ℤ◌, ◌*ℤ◌, ◌≤ℤ◌, ◌<ℤ◌, IsTrue, List, [], ◌∷◌, sum, slice_index_or, refl, ap, arith, mul-le-mul_left}
use Rattle.std.specs.Prelude.{int_le}
use Rattle.std.specs.Int.Signed.{≤ℤ_refl}
use Rattle.std.proofs.lemmas.Bool.{and_parts, and_from}
use Rattle.std.proofs.lemmas.Int.{ints}
use Rattle.std.proofs.lemmas.Nat.{mul-le}
use Rattle.demand_law.specs.Integers as Z
use Rattle.demand_law.specs.Sequences.{greatest_in}
use Rattle.demand_law.specs.WeightedSums.{sum-cons}
use Rattle.decision_model.specs.declared.serial.Serial.{Serial}
use Rattle.decision_model.specs.Positions.{above_zero}
use Rattle.decision_model.specs.PositionTests.{le_test, le_known}
use Rattle.decision_model.specs.Serial.{serial_low, serial_positions, serial_cost_bound}
use Rattle.decision_model.specs.SerialProblem.{limit, are_ordered, are_allowed, over_echelons, over_orders, holding_of, unit_of, lacking_rate, period_cost}
use Rattle.decision_model.specs.SerialSound.{IsSoundSerial, low_zero, grid_width}
use Rattle.decision_model.specs.SerialStates.{ordered_low, ordered_cap, ordered_lower, allowed_first, allowed_others}

-- the sum of the rates of the echelons from i on, one for each stock
abbrev rates_from : (ℕ → ℕ) → ℕ → List ℤ → ℕ
rates_from rate i [] = 0
rates_from rate i (x ∷ xs) = rate i + rates_from rate (suc i) xs

-- the rates of a longer list, from one place later
rates_from-later : (r : ℕ) (rs : List ℕ) (i : ℕ) (xs : List ℤ) → rates_from (λ j. slice_index_or (r ∷ rs) j 0) (suc i) xs ≡ rates_from (λ j. slice_index_or rs j 0) i xs
rates_from-later r rs i [] = refl
rates_from-later r rs i (x ∷ xs) = ap (λ k. slice_index_or rs i 0 + k) (rates_from-later r rs (suc i) xs)

-- no rates add up to 0
rates_from-none : (i : ℕ) (xs : List ℤ) → rates_from (λ j. slice_index_or [] j 0) i xs ≡ 0
rates_from-none i [] = refl
rates_from-none i (x ∷ xs) = omega (arith, rates_from-none (suc i) xs)

-- rates add up to at most the sum of their list
rates_most : (rs : List ℕ) (xs : List ℤ) → rates_from (λ j. slice_index_or rs j 0) 0 xs ≤ sum rs
rates_most rs [] = omega arith
rates_most [] (x ∷ xs) = omega (arith, rates_from-none 0 (x ∷ xs))
rates_most (r ∷ rs) (x ∷ xs) = omega (arith, rates_from-later r rs 0 xs, rates_most rs xs, sum-cons r rs)

-- stocks that are at least v cost at least as much as if all were v
stocks_least : (rate : ℕ → ℕ) (d i : ℕ) (v cap : ℤ) (xs : List ℤ) → IsTrue (are_ordered v cap xs) → (pos (rates_from rate i xs) *ℤ (v -ℤ pos d)) ≤ℤ over_echelons (λ j x. pos (rate j) *ℤ (x -ℤ pos d)) i xs
stocks_least rate d i v cap [] on = omega (arith, ints)
stocks_least rate d i v cap (x ∷ xs) on =
    let here = and_parts (int_le v x) (are_ordered x cap xs) on in
    let weaker = ordered_lower x v cap xs (le_known v x here.0) here.1 in
    let first = Z.weight_mono (rate i) (v -ℤ pos d) (x -ℤ pos d) (omega (arith, ints, le_known v x here.0)) in
    omega (arith, ints, first, stocks_least rate d (suc i) v cap xs weaker, Z.mul_sum (rate i) (rates_from rate (suc i) xs) (v -ℤ pos d))

-- .. and at most as much as if all were the cap
stocks_most : (rate : ℕ → ℕ) (d i : ℕ) (v cap : ℤ) (xs : List ℤ) → IsTrue (are_ordered v cap xs) → over_echelons (λ j x. pos (rate j) *ℤ (x -ℤ pos d)) i xs ≤ℤ (pos (rates_from rate i xs) *ℤ (cap -ℤ pos d))
stocks_most rate d i v cap [] on = omega (arith, ints)
stocks_most rate d i v cap (x ∷ xs) on =
    let here = and_parts (int_le v x) (are_ordered x cap xs) on in
    let top = Z.le_trans x (limit cap xs) cap (ordered_low x cap xs here.1) (ordered_cap x cap xs here.1) in
    let first = Z.weight_mono (rate i) (x -ℤ pos d) (cap -ℤ pos d) (omega (arith, ints, top)) in
    omega (arith, ints, first, stocks_most rate d (suc i) x cap xs here.1, Z.mul_sum (rate i) (rates_from rate (suc i) xs) (cap -ℤ pos d))

-- orders cost at least 0, and at most their rates from the least stock to the cap
orders_within : (rate : ℕ → ℕ) (i reach : ℕ) (v cap : ℤ) (xs ys : List ℤ) → (cap -ℤ v) ≤ℤ pos reach → IsTrue (are_ordered v cap xs) → IsTrue (are_allowed cap xs ys) → (pos 0 ≤ℤ over_orders (λ j x y. pos (rate j) *ℤ (y -ℤ x)) i xs ys) × (over_orders (λ j x y. pos (rate j) *ℤ (y -ℤ x)) i xs ys ≤ℤ pos (rates_from rate i xs * reach))
orders_within rate i reach v cap [] ys far on ok = (≤ℤ_refl (pos 0), omega (arith, ints))
orders_within rate i reach v cap (x ∷ xs) [] far on ok = cc
orders_within rate i reach v cap (x ∷ xs) (y ∷ ys) far on ok =
    let here = and_parts (int_le v x) (are_ordered x cap xs) on in
    let first = allowed_first cap x y xs ys ok in
    let top = Z.le_trans y (limit cap xs) cap first.1 (ordered_cap x cap xs here.1) in
    let low = Z.weight_mono (rate i) (pos 0) (y -ℤ x) (omega (arith, ints, first.0)) in
    let high = Z.weight_mono (rate i) (y -ℤ x) (pos reach) (omega (arith, ints, far, top, le_known v x here.0)) in
    let others = orders_within rate (suc i) reach x cap xs ys (omega (arith, ints, far, le_known v x here.0)) here.1 (allowed_others cap x y xs ys ok) in
    (omega (arith, ints, low, others.0, Z.mul_zero (pos (rate i))), omega (arith, ints, high, others.1))

-- what lacks costs at least what a lower rate counts below 0 for it
lacking_least : (held lacking d : ℕ) (x : ℤ) → held ≤ lacking → pos 0 ≤ℤ (pos held *ℤ (x -ℤ pos d) +ℤ pos lacking *ℤ pos (above_zero (pos d -ℤ x)))
lacking_least held lacking d x le = by (x -ℤ pos d) (pos d -ℤ x) refl (omega (arith, ints))
  where
    by : (z v : ℤ) → x -ℤ pos d ≡ z → z +ℤ v ≡ pos 0 → pos 0 ≤ℤ (pos held *ℤ z +ℤ pos lacking *ℤ pos (above_zero v))
    by (pos k) v e h = omega (arith, ints)
    by (negsuc k) (pos n) e h =
        let same : n ≡ suc k = omega (arith, ints, h) in
        let more = mul-le held (suc k) lacking n le (omega (arith, same)) in
        omega (arith, ints, more)
    by (negsuc k) (negsuc n) e h = absurd (omega (arith, ints, h))

-- .. and with stock up to the cap at most its rate as far as stocks lie from a demand
lacking_most : (held lacking d far : ℕ) (x cap : ℤ) → held ≤ lacking → (cap -ℤ x) ≤ℤ pos far → (cap -ℤ pos d) ≤ℤ pos far → (pos d -ℤ x) ≤ℤ pos far → (pos held *ℤ (cap -ℤ pos d) +ℤ pos lacking *ℤ pos (above_zero (pos d -ℤ x))) ≤ℤ pos (lacking * far)
lacking_most held lacking d far x cap le wide high low = by (cap -ℤ pos d) (pos d -ℤ x) high low (omega (arith, ints, wide))
  where
    both : (a b far : ℕ) → a + b ≤ far → held * a + lacking * b ≤ lacking * far
    both a b far fits = omega (arith, mul-le held a lacking a le (omega arith), mul-le-mul_left lacking fits)

    by : (z v : ℤ) → z ≤ℤ pos far → v ≤ℤ pos far → (z +ℤ v) ≤ℤ pos far → (pos held *ℤ z +ℤ pos lacking *ℤ pos (above_zero v)) ≤ℤ pos (lacking * far)
    by (pos a) (pos b) first second third = omega (arith, ints, both a b far (omega (arith, ints, third)))
    by (pos a) (negsuc b) first second third = omega (arith, ints, both a 0 far (omega (arith, ints, first)))
    by (negsuc a) (pos b) first second third = omega (arith, ints, both 0 b far (omega (arith, ints, second)))
    by (negsuc a) (negsuc b) first second third = omega (arith, ints)

module _ (serial : Serial) (sound : IsSoundSerial serial) (t d : ℕ) (le : t ≤ serial.periods + 1) (small : d ≤ greatest_in serial.laws) (x : ℤ) (xs ys : List ℤ) (on : IsTrue (are_ordered (serial_low serial t) serial.cap (x ∷ xs))) (ok : IsTrue (are_allowed serial.cap (x ∷ xs) ys)) where
  -- no stock lies further from another one or from a demand
  abbrev reach : ℕ
  reach = serial_positions serial + greatest_in serial.laws

  from_low : serial_low serial t ≤ℤ x
  from_low = ordered_low (serial_low serial t) serial.cap (x ∷ xs) on

  -- the stocks are at least the first
  ordered : IsTrue (are_ordered x serial.cap (x ∷ xs))
  ordered = and_from (int_le x x) (are_ordered x serial.cap xs) (le_test x x (≤ℤ_refl x)) (and_parts (int_le (serial_low serial t) x) (are_ordered x serial.cap xs) on).1

  far : (serial.cap -ℤ x) ≤ℤ pos (serial_positions serial)
  far = above (serial_low serial t) (grid_width serial sound t le) from_low
    where
      above : (low : ℤ) → (serial.cap -ℤ low) ≤ℤ pos (serial_positions serial) → low ≤ℤ x → (serial.cap -ℤ x) ≤ℤ pos (serial_positions serial)
      above low h k = omega (arith, ints, h, k)

  orders : (pos 0 ≤ℤ over_orders (λ j x y. pos (unit_of serial j) *ℤ (y -ℤ x)) 0 (x ∷ xs) ys) × (over_orders (λ j x y. pos (unit_of serial j) *ℤ (y -ℤ x)) 0 (x ∷ xs) ys ≤ℤ pos (rates_from (unit_of serial) 0 (x ∷ xs) * serial_positions serial))
  orders = orders_within (unit_of serial) 0 (serial_positions serial) x serial.cap (x ∷ xs) ys far ordered ok

  -- no period costs less than 0
  pub cost_least : pos 0 ≤ℤ period_cost serial (x ∷ xs) ys d
  unfolding lacking_rate
  cost_least =
      let held = rates_from (holding_of serial) 0 (x ∷ xs) in
      let most : held ≤ serial.stockout + sum serial.holding = omega (arith, rates_most serial.holding (x ∷ xs)) in
      omega (arith, ints, stocks_least (holding_of serial) d 0 x serial.cap (x ∷ xs) ordered, lacking_least held (serial.stockout + sum serial.holding) d x most, orders.0)

  -- and each costs less than the cost bound
  pub cost_below : period_cost serial (x ∷ xs) ys d <ℤ pos (serial_cost_bound serial)
  unfolding lacking_rate serial_cost_bound
  cost_below =
      let held = rates_from (holding_of serial) 0 (x ∷ xs) in
      let lacking = serial.stockout + sum serial.holding in
      let units = rates_from (unit_of serial) 0 (x ∷ xs) in
      let most : held ≤ lacking = omega (arith, rates_most serial.holding (x ∷ xs)) in
      let width = grid_width serial sound t le in
      let stock = lacking_most held lacking d reach x serial.cap most (omega (arith, ints, far)) (gap_high (serial_low serial t) width (low_zero serial t)) (gap_low (serial_low serial t) width from_low) in
      let bought = mul-le units (serial_positions serial) (sum serial.unit) reach (rates_most serial.unit (x ∷ xs)) (omega arith) in
      let whole : lacking * reach + sum serial.unit * reach ≡ (lacking + sum serial.unit) * reach = spread lacking (sum serial.unit) reach in
      omega (arith, ints, stocks_most (holding_of serial) d 0 x serial.cap (x ∷ xs) ordered, stock, orders.1, bought, whole)
    where
      spread : (a b c : ℕ) → a * c + b * c ≡ (a + b) * c
      spread a b c = omega arith

      gap_high : (low : ℤ) → (serial.cap -ℤ low) ≤ℤ pos (serial_positions serial) → low ≤ℤ pos 0 → (serial.cap -ℤ pos d) ≤ℤ pos reach
      gap_high low h k = omega (arith, ints, h, k)

      gap_low : (low : ℤ) → (serial.cap -ℤ low) ≤ℤ pos (serial_positions serial) → low ≤ℤ x → (pos d -ℤ x) ≤ℤ pos reach
      gap_low low h k = omega (arith, ints, h, k, small, sound.cap)
