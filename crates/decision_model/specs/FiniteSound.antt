-- What the theorems ask of a finite horizon, and that its grids go down by the greatest demand.
use Rattle.std.proofs.Common.{◌≡◌, ℕ, zero, suc, ◌+◌, ◌-◌, ◌*◌, ◌<◌, ◌≤◌, ℤ, pos, ◌-ℤ◌, ◌≤ℤ◌, IsTrue, length, sum, sym, ap, arith, subst}
use Rattle.std.specs.Prelude.{int_le, Option, None, Some}
use Rattle.std.specs.Int.{int_min}
use Rattle.std.specs.Int.Signed.{≤ℤ_refl}
use Rattle.std.proofs.lemmas.Bool.{and_parts, and_from}
use Rattle.std.proofs.lemmas.Int.{ints, clamps}
use Rattle.demand_law.specs.Integers.{le_trans}
use Rattle.demand_law.specs.Law.{greatest_of}
use Rattle.demand_law.specs.Sequences.{greatest_in}
use Rattle.demand_law.specs.ServedLaws.{law_at_among, greatest_in-All}
use Rattle.decision_model.specs.declared.finite.Finite.{Finite}
use Rattle.decision_model.specs.Bounds.{IsOnGrid}
use Rattle.decision_model.specs.DemandLaws.{common_total}
use Rattle.decision_model.specs.Finite.{IsReadableFinite, finite_low}
use Rattle.decision_model.specs.FiniteProblem.{law_of_period, up_to, top, finite_problem}
use Rattle.decision_model.specs.LawFacts.{laws_some}
use Rattle.decision_model.specs.Positions.{low_after}
use Rattle.decision_model.specs.PositionTests.{le_test, le_known}

-- the laws of all periods have one sum of weights and no demand above the greatest, and the start is at most the cap
pub record IsSoundFinite (finite : Finite) : Type 0 where
  pub same_sum : (t : ℕ) → sum (law_of_period finite t) ≡ common_total finite.laws
  pub within : (t : ℕ) → length (law_of_period finite t) ≤ suc (greatest_in finite.laws)
  pub cap : pos 0 ≤ℤ finite.cap
  pub start : finite.start ≤ℤ finite.cap
  pub discount : finite.discount_num ≤ finite.discount_den

-- a readable instance is sound
pub sound_readable : (finite : Finite) → IsReadableFinite finite → IsSoundFinite finite
sound_readable finite readable = record {
  same_sum = λ t. law_at_among (λ law. sum law ≡ common_total finite.laws) finite.laws (t - 1) some readable.laws.common;
  within = λ t. omega (arith, law_at_among (λ law. greatest_of law ≤ greatest_in finite.laws) finite.laws (t - 1) some (greatest_in-All finite.laws));
  cap = readable.cap.least;
  start = readable.start_below;
  discount = readable.discount.proper;
}
  where
    some : 0 < length finite.laws
    some = laws_some finite.laws (finite.periods + finite.lead) (omega (arith, readable.periods.least)) readable.laws

-- ---- the grid
-- a demand of at most the greatest leads at most as far down as one period's grid goes down
low_step : (base : ℤ) (s m d : ℕ) → d ≤ m → (base -ℤ pos (suc s * m)) ≤ℤ (base -ℤ pos (s * m) -ℤ pos d)
low_step base s m d le = omega (arith, ints, le)

-- a demand leads from a period's low end to above that of the next
pub low_next : (finite : Finite) (t d : ℕ) → 1 ≤ t → d ≤ greatest_in finite.laws → finite_low finite (suc t) ≤ℤ (finite_low finite t -ℤ pos d)
low_next finite zero d pt le = absurd (omega (arith, pt))
low_next finite (suc s) d pt le =
    let e : suc s - 1 ≡ s = omega arith in
    let f : suc (suc s) - 1 ≡ suc s = omega arith in
    subst (λ (k : ℕ). low_after finite.start (greatest_in finite.laws) (suc (suc s) - 1) ≤ℤ (low_after finite.start (greatest_in finite.laws) k -ℤ pos d)) (sym e)
    (subst (λ (k : ℕ). low_after finite.start (greatest_in finite.laws) k ≤ℤ (low_after finite.start (greatest_in finite.laws) s -ℤ pos d)) (sym f)
    (low_step (int_min finite.start (pos 0)) s (greatest_in finite.laws) d le))

-- a low end is at most 0 and at most the start
low_most : (start : ℤ) (m passed : ℕ) → (low_after start m passed ≤ℤ pos 0) × (low_after start m passed ≤ℤ start)
low_most start m passed = (omega (arith, ints, clamps), omega (arith, ints, clamps))

-- the low end of a period is at most 0
pub low_zero : (finite : Finite) (t : ℕ) → finite_low finite t ≤ℤ pos 0
low_zero finite t = (low_most finite.start (greatest_in finite.laws) (t - 1)).0

-- .. and at most the start
pub low_start : (finite : Finite) (t : ℕ) → finite_low finite t ≤ℤ finite.start
low_start finite t = (low_most finite.start (greatest_in finite.laws) (t - 1)).1

-- after an order and a demand the position is from the next low end
pub after_demand : (low next x y : ℤ) (d : ℕ) → next ≤ℤ (low -ℤ pos d) → low ≤ℤ x → x ≤ℤ y → next ≤ℤ (y -ℤ pos d)
after_demand low next x y d step from above = omega (arith, ints, step, from, above)

-- .. and to the cap
pub before_cap : (y cap : ℤ) (d : ℕ) → y ≤ℤ cap → (y -ℤ pos d) ≤ℤ cap
before_cap y cap d below = omega (arith, ints, below)

-- ---- the greatest position of an order
-- no order leads above the cap
pub up_to_cap : (most : Option ℕ) (cap x : ℤ) → up_to most cap x ≤ℤ cap
up_to_cap None cap x = ≤ℤ_refl cap
up_to_cap (Some most) cap x = omega (arith, ints, clamps)

-- a position may stay
pub up_to_from : (most : Option ℕ) (cap x : ℤ) → x ≤ℤ cap → x ≤ℤ up_to most cap x
up_to_from None cap x h = h
up_to_from (Some most) cap x h = omega (arith, ints, clamps, h)

-- without a greatest order each leads to the cap at most
pub top_none : (finite : Finite) (x : ℤ) → finite.most ≡ None → top finite x ≡ finite.cap
top_none finite x none = ap (λ m. up_to m finite.cap x) none

-- an allowed order leads to the grid of the next period
pub on_grid : (finite : Finite) → IsSoundFinite finite → IsOnGrid (finite_problem finite)
on_grid finite sound = record {
  start = and_from (int_le (finite_low finite 1) finite.start) (int_le finite.start finite.cap) (le_test (finite_low finite 1) finite.start (low_start finite 1)) (le_test finite.start finite.cap sound.start);
  next = next;
}
  where
    next : (t d : ℕ) (x y : ℤ) → 1 ≤ t → IsTrue ((finite_problem finite).grid t x) → IsTrue ((finite_problem finite).allows t x y) → d < length (law_of_period finite t) → IsTrue ((finite_problem finite).grid (suc t) (y -ℤ pos d))
    next t d x y pt on ok lt =
        let low = and_parts (int_le (finite_low finite t) x) (int_le x finite.cap) on in
        let up = and_parts (int_le x y) (int_le y (top finite x)) ok in
        let step = low_next finite t d pt (omega (arith, sound.within t, lt)) in
        let from = le_known (finite_low finite t) x low.0 in
        let above = le_known x y up.0 in
        let below = le_trans y (top finite x) finite.cap (le_known y (top finite x) up.1) (up_to_cap finite.most finite.cap x) in
        and_from (int_le (finite_low finite (suc t)) (y -ℤ pos d)) (int_le (y -ℤ pos d) finite.cap)
        (le_test (finite_low finite (suc t)) (y -ℤ pos d) (after_demand (finite_low finite t) (finite_low finite (suc t)) x y d step from above))
        (le_test (y -ℤ pos d) finite.cap (before_cap y finite.cap d below))
