-- What the recursion finds at the next place of a row, where it has gone through the earlier ones with the solver's values.
use Rattle.std.proofs.Common.{◌≡◌, ℕ, suc, ◌+◌, ◌-◌, ◌<◌, ◌≤◌, Bool, true, false, ◌||◌, ◌==◌, length, ℤ, pos, ◌-ℤ◌, ◌≤ℤ◌, sym, ◌∙◌, ap, arith, subst}
use Rattle.std.specs.Prelude.{nat_le}
use Rattle.std.proofs.lemmas.Bool.{leb-false}
use Rattle.std.proofs.lemmas.Int.{ints}
use Rattle.std.proofs.lemmas.List.FromFn.{length-map-range_with_len}
use Rattle.decision_model.specs.declared.finite.Finite.{Finite}
use Rattle.decision_model.specs.Finite.{IsReadableFinite, finite_low}
use Rattle.finite_lemmas.specs.SolvedFronts.{period_before, position_at, value_at_place, front_values, row_front, AreLater, choice_same, value_same}
use Rattle.finite_lemmas.specs.SolvedKept.{place_from_low}
use Rattle.finite_recursion.specs.Recursions.{finite_of, is_whole, next_at, KnowsRows}
use Rattle.finite_recursion.specs.Rows.{row_period}
use Rattle.finite_recursion.specs.declared.recursion.Recursion.{Recursion}
use Rattle.value_cert.specs.FiniteRules.{last_period}
use Rattle.value_cert.specs.FiniteValues.{value_of, least_choice, least_values, row_width}

second_false : (a b : Bool) → (a || b) ≡ false → b ≡ false
second_false true b h = cc
second_false false b h = h

-- as many values as places
pub count_is : (finite : Finite) (n count : ℕ) → length (front_values finite n count) ≡ count
count_is finite n count = length-map-range_with_len (value_at_place finite n) 0 count

-- a row that isn't whole has a next place
pub place_left : (r : Recursion) (later : ℤ → ℤ) (n count : ℕ) → KnowsRows r (row_front (finite_of r) later n count) → is_whole r ≡ false → count < row_width (finite_of r) (period_before (finite_of r) n)
place_left r later n count knows left =
    let finite = finite_of r in
    let test = second_false (r.rows == 0) (nat_le (row_width finite (row_period finite r.rows)) r.row.place) left in
    let period : row_period finite r.rows ≡ period_before finite n = ap (λ k. suc finite.periods - k) knows.rows_are ∙ omega arith in
    let place : r.row.place ≡ count = knows.place_is ∙ count_is finite n count in
    omega (arith, leb-false (row_width finite (row_period finite r.rows)) r.row.place test, ap (row_width finite) period, place)

module _ (finite : Finite) (readable : IsReadableFinite finite) (later : ℤ → ℤ) (n count : ℕ) (within : n < finite.periods) (same : AreLater finite later n) (inside : count < row_width finite (period_before finite n)) where
  abbrev first_before : ℕ
  first_before = suc n - 1

  from : finite_low finite (period_before finite n) ≤ℤ position_at finite count
  from = place_from_low (finite_low finite (period_before finite n)) finite.cap count inside

  below : position_at finite count ≤ℤ finite.cap
  below = omega (arith, ints)

  -- the next position
  pub at_is : next_at finite (row_front finite later n count) ≡ position_at finite count
  at_is = ap (λ k. finite.cap -ℤ pos k) (count_is finite n count)

  -- the first position of least value
  pub to_is : least_choice finite later (suc n - 1) (last_period finite (row_front finite later n count)) (next_at finite (row_front finite later n count))
      ≡ least_choice finite (least_values finite n (suc (period_before finite n))) n (period_before finite n) (position_at finite count)
  to_is =
      ap (λ k. least_choice finite later k (last_period finite (row_front finite later n count)) (next_at finite (row_front finite later n count))) (omega arith)
      ∙ ap (λ t. least_choice finite later n t (next_at finite (row_front finite later n count))) (omega arith)
      ∙ ap (least_choice finite later n (period_before finite n)) at_is
      ∙ choice_same finite readable later n within same (position_at finite count) from below

  -- and its value
  pub value_is : value_of finite later (suc n - 1) (last_period finite (row_front finite later n count)) (next_at finite (row_front finite later n count)) (least_choice finite later (suc n - 1) (last_period finite (row_front finite later n count)) (next_at finite (row_front finite later n count)))
      ≡ value_at_place finite n count
  value_is =
      ap (λ k. at k (last_period finite (row_front finite later n count)) (next_at finite (row_front finite later n count))) (omega arith)
      ∙ ap (λ t. at n t (next_at finite (row_front finite later n count))) (omega arith)
      ∙ ap (at n (period_before finite n)) at_is
      ∙ value_same finite readable later n within same (position_at finite count) from below
    where
      at : ℕ → ℕ → ℤ → ℤ
      at k t x = value_of finite later k t x (least_choice finite later k t x)
