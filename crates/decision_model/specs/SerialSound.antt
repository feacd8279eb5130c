-- What the theorems ask of a serial system, and that its grids go down by the greatest demand.
use Rattle.std.proofs.Common.{◌≡◌, ℕ, zero, suc, ◌+◌, ◌-◌, ◌*◌, ◌<◌, ◌≤◌, ℤ, pos, ◌+ℤ◌, ◌-ℤ◌, ◌≤ℤ◌, IsTrue, ◌==◌, List, [], ◌∷◌, length, sum, slice_index_or, sym, ◌∙◌, arith, subst, eq-eqb}
use Rattle.std.specs.Int.{int_min}
use Rattle.std.specs.List.{AllAdjacentBelow}
use Rattle.std.proofs.lemmas.Bool.{and_parts, and_from, eqb-true}
use Rattle.std.proofs.lemmas.Int.{ints, clamps}
use Rattle.std.proofs.lemmas.List.{length-map}
use Rattle.std.proofs.lemmas.Nat.{mul-le}
use Rattle.demand_law.specs.Law.{greatest_of}
use Rattle.demand_law.specs.Sequences.{greatest_in}
use Rattle.demand_law.specs.ServedLaws.{law_at_among, greatest_in-All}
use Rattle.decision_model.specs.declared.serial.Serial.{Serial}
use Rattle.decision_model.specs.Bounds.{IsOnGrid}
use Rattle.decision_model.specs.DemandLaws.{common_total}
use Rattle.decision_model.specs.LawFacts.{laws_some}
use Rattle.decision_model.specs.Positions.{low_after}
use Rattle.decision_model.specs.PositionTests.{above_zero_is}
use Rattle.decision_model.specs.Serial.{IsReadableSerial, serial_low, serial_positions}
use Rattle.decision_model.specs.SerialProblem.{law_of_period, are_ordered, after_demand, serial_problem}
use Rattle.decision_model.specs.SerialStates.{ordered_lower, ordered_from, allowed_length, allowed_ordered, ordered_after}

-- the laws of all periods have one sum of weights and no demand above the greatest, and the start has a stock for each
-- echelon, which never fall and are on the grid
pub record IsSoundSerial (serial : Serial) : Type 0 where
  pub same_sum : (t : ℕ) → sum (law_of_period serial t) ≡ common_total serial.laws
  pub within : (t : ℕ) → length (law_of_period serial t) ≤ suc (greatest_in serial.laws)
  pub cap : pos 0 ≤ℤ serial.cap
  pub some_echelon : 1 ≤ length serial.holding
  pub start_each : length serial.start ≡ length serial.holding
  pub start_ordered : IsTrue (are_ordered (serial_low serial 1) serial.cap serial.start)
  pub discount : serial.discount_num ≤ serial.discount_den

-- the first period's grid begins at or below the start
start_ordered : (serial : Serial) (xs : List ℤ) → 1 ≤ length xs → AllAdjacentBelow (λ a b. a ≤ℤ b) xs (length xs) → slice_index_or xs (length xs - 1) (pos 0) ≤ℤ serial.cap → IsTrue (are_ordered (low_after (slice_index_or xs 0 (pos 0)) (greatest_in serial.laws) (1 - 1)) serial.cap xs)
start_ordered serial [] some rises last = absurd (omega (arith, some))
start_ordered serial (x ∷ xs) some rises last =
    let m = greatest_in serial.laws in
    let none : (1 - 1) * m ≡ 0 = omega arith in
    let from : low_after x m (1 - 1) ≤ℤ x = omega (arith, ints, clamps, none) in
    ordered_from (low_after x m (1 - 1)) serial.cap x xs from rises last

-- a readable instance is sound
pub sound_readable : (serial : Serial) → IsReadableSerial serial → IsSoundSerial serial
sound_readable serial readable = record {
  same_sum = λ t. law_at_among (λ law. sum law ≡ common_total serial.laws) serial.laws (t - 1) some readable.laws.common;
  within = λ t. omega (arith, law_at_among (λ law. greatest_of law ≤ greatest_in serial.laws) serial.laws (t - 1) some (greatest_in-All serial.laws));
  cap = readable.cap.least;
  some_echelon = readable.some_echelon;
  start_each = readable.start_each;
  start_ordered = start_ordered serial serial.start (omega (arith, readable.some_echelon, readable.start_each)) readable.never_falling readable.last_below;
  discount = readable.discount.proper;
}
  where
    some : 0 < length serial.laws
    some = laws_some serial.laws serial.periods readable.periods.least readable.laws

-- ---- the grid
-- a demand of at most the greatest leads at most as far down as one period's grid goes down
low_step : (base : ℤ) (s m d : ℕ) → d ≤ m → (base -ℤ pos (suc s * m)) ≤ℤ (base -ℤ pos (s * m) -ℤ pos d)
low_step base s m d le = omega (arith, ints, le)

-- a demand leads from a period's low end to above that of the next
pub low_next : (serial : Serial) (t d : ℕ) → 1 ≤ t → d ≤ greatest_in serial.laws → serial_low serial (suc t) ≤ℤ (serial_low serial t -ℤ pos d)
low_next serial zero d pt le = absurd (omega (arith, pt))
low_next serial (suc s) d pt le =
    let e : suc s - 1 ≡ s = omega arith in
    let f : suc (suc s) - 1 ≡ suc s = omega arith in
    let first = slice_index_or serial.start 0 (pos 0) in
    subst (λ (k : ℕ). low_after first (greatest_in serial.laws) (suc (suc s) - 1) ≤ℤ (low_after first (greatest_in serial.laws) k -ℤ pos d)) (sym e)
    (subst (λ (k : ℕ). low_after first (greatest_in serial.laws) k ≤ℤ (low_after first (greatest_in serial.laws) s -ℤ pos d)) (sym f)
    (low_step (int_min first (pos 0)) s (greatest_in serial.laws) d le))

-- later low ends are no higher
pub low_falls : (serial : Serial) (t s : ℕ) → t ≤ s → serial_low serial s ≤ℤ serial_low serial t
low_falls serial t s le =
    let m = greatest_in serial.laws in
    further (int_min (slice_index_or serial.start 0 (pos 0)) (pos 0)) ((t - 1) * m) ((s - 1) * m) (mul-le (t - 1) m (s - 1) m (omega (arith, le)) (omega arith))
  where
    further : (base : ℤ) (a b : ℕ) → a ≤ b → (base -ℤ pos b) ≤ℤ (base -ℤ pos a)
    further base a b le = omega (arith, ints, le)

-- the low end of a period is at most 0
pub low_zero : (serial : Serial) (t : ℕ) → serial_low serial t ≤ℤ pos 0
low_zero serial t = below (slice_index_or serial.start 0 (pos 0)) ((t - 1) * greatest_in serial.laws)
  where
    below : (start : ℤ) (a : ℕ) → (int_min start (pos 0) -ℤ pos a) ≤ℤ pos 0
    below start a = omega (arith, ints, clamps)

-- the positions after the last period are those from its low end to the cap
pub positions_are : (serial : Serial) → IsSoundSerial serial → pos (serial_positions serial) ≡ serial.cap -ℤ serial_low serial (serial.periods + 1) +ℤ pos 1
unfolding serial_positions
positions_are serial sound = above_zero_is (serial.cap -ℤ serial_low serial (serial.periods + 1) +ℤ pos 1) (some (serial_low serial (serial.periods + 1)) (low_zero serial (serial.periods + 1)))
  where
    some : (low : ℤ) → low ≤ℤ pos 0 → pos 0 ≤ℤ (serial.cap -ℤ low +ℤ pos 1)
    some low h = omega (arith, ints, h, sound.cap)

-- no grid is wider
pub grid_width : (serial : Serial) → IsSoundSerial serial → (t : ℕ) → t ≤ serial.periods + 1 → (serial.cap -ℤ serial_low serial t) ≤ℤ pos (serial_positions serial)
grid_width serial sound t le =
    narrower (serial_low serial (serial.periods + 1)) (serial_low serial t) (serial_positions serial) (positions_are serial sound) (low_falls serial t (serial.periods + 1) le)
  where
    narrower : (last low : ℤ) (n : ℕ) → pos n ≡ serial.cap -ℤ last +ℤ pos 1 → last ≤ℤ low → (serial.cap -ℤ low) ≤ℤ pos n
    narrower last low n e le = omega (arith, ints, e, le)

-- allowed orders lead to the grid of the next period
pub on_grid : (serial : Serial) → IsSoundSerial serial → IsOnGrid (serial_problem serial)
on_grid serial sound = record {
  start = and_from (length serial.start == length serial.holding) (are_ordered (serial_low serial 1) serial.cap serial.start) (eq-eqb _ _ sound.start_each) sound.start_ordered;
  next = next;
}
  where
    next : (t d : ℕ) (xs ys : List ℤ) → 1 ≤ t → IsTrue ((serial_problem serial).grid t xs) → IsTrue ((serial_problem serial).allows t xs ys) → d < length (law_of_period serial t) → IsTrue ((serial_problem serial).grid (suc t) (after_demand ys d))
    next t d xs ys pt on ok lt =
        let here = and_parts (length xs == length serial.holding) (are_ordered (serial_low serial t) serial.cap xs) on in
        let moved = ordered_after (serial_low serial t) serial.cap d ys (allowed_ordered (serial_low serial t) serial.cap xs ys here.1 ok) in
        let as_many : length (after_demand ys d) ≡ length serial.holding = length-map ys (λ (y : ℤ). y -ℤ pos d) ∙ sym (allowed_length serial.cap xs ys ok) ∙ eqb-true (length xs) (length serial.holding) here.0 in
        and_from (length (after_demand ys d) == length serial.holding) (are_ordered (serial_low serial (suc t)) serial.cap (after_demand ys d))
        (eq-eqb (length (after_demand ys d)) (length serial.holding) as_many)
        (ordered_lower (serial_low serial t -ℤ pos d) (serial_low serial (suc t)) serial.cap (after_demand ys d) (low_next serial t d pt (omega (arith, sound.within t, lt))) moved)
