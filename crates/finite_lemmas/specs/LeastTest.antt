-- The rule that no allowed choice has a lower value, tested by the least choice alone.
use Rattle.std.proofs.Common.{◌≡◌, ℕ, suc, ◌+◌, ◌<◌, ◌≤◌, Bool, true, false, cond, ℤ, pos, ◌+ℤ◌, ◌-ℤ◌, ◌≤ℤ◌, refl, sym, ap, ◌∙◌, subst, arith}
use Rattle.std.specs.Prelude.{Option, None, Some, int_le}
use Rattle.std.proofs.lemmas.Int.{ints}
use Rattle.decision_model.specs.declared.finite.Finite.{Finite}
use Rattle.decision_model.specs.FiniteProblem.{top}
use Rattle.decision_model.specs.Positions.{above_zero}
use Rattle.decision_model.specs.PositionTests.{le_test, le_known, above_zero_is}
use Rattle.value_cert.specs.FiniteRules.{is_allowed, is_least_value, value_rule}
use Rattle.value_cert.specs.FiniteValues.{value_of, least_choice}
use Rattle.value_cert.specs.Numbers.{is_number}
use Rattle.finite_lemmas.specs.LeastChoice.{least_choice_is}
use Rattle.finite_lemmas.specs.RowsLeast.{all_range}
use Rattle.finite_lemmas.specs.SolvedKept.{range_all}

-- two tests that say the same
same_test : (a b : Bool) → (a ≡ true → b ≡ true) → (b ≡ true → a ≡ true) → a ≡ b
same_test true b to from = sym (to refl)
same_test false true to from = from refl
same_test false false to from = refl

module _ (finite : Finite) (F : ℤ → ℤ) (n t : ℕ) (x : ℤ) (below : x ≤ℤ finite.cap) where
  -- the least value at the position
  abbrev least : ℤ
  least = value_of finite F n t x (least_choice finite F n t x)

  abbrev units : ℕ
  units = above_zero (top finite x -ℤ x)

  test : ℤ → ℕ → Bool
  test value k = int_le value (value_of finite F n t x (x +ℤ pos k))

  through : {a b c : ℤ} → a ≤ℤ b → b ≤ℤ c → a ≤ℤ c
  through p q = omega (arith, ints, p, q)

  at_most_least : (value : ℤ) → is_least_value finite F n t x value ≡ true → int_le value least ≡ true
  unfolding test
  at_most_least value all =
      let is = least_choice_is finite F n t x below in
      let chosen = least_choice finite F n t x in
      let place = above_zero (chosen -ℤ x) in
      let at = above_zero_is (chosen -ℤ x) (omega (arith, ints, is.from_low)) in
      let room = above_zero_is (top finite x -ℤ x) (omega (arith, ints, is.from_low, is.to_cap)) in
      let here : x +ℤ pos place ≡ chosen = omega (arith, ints, at) in
      subst (λ (z : ℤ). int_le value (value_of finite F n t x z) ≡ true) here
      (all_range (test value) 0 (suc units) place all (omega arith) (omega (arith, ints, at, room, is.to_cap)))

  at_most_each : (value : ℤ) → int_le value least ≡ true → is_least_value finite F n t x value ≡ true
  unfolding test
  at_most_each value le =
      let is = least_choice_is finite F n t x below in
      let room = above_zero_is (top finite x -ℤ x) (omega (arith, ints, is.from_low, is.to_cap)) in
      range_all (test value) 0 (suc units)
      (λ k pk lt. le_test value (value_of finite F n t x (x +ℤ pos k))
      (through (le_known value least le) (is.least (x +ℤ pos k) (omega (arith, ints)) (omega (arith, ints, lt, room)))))

  -- a value is at most each of the allowed choices where it is at most the least
  pub least_test : (value : ℤ) → is_least_value finite F n t x value ≡ int_le value (value_of finite F n t x (least_choice finite F n t x))
  least_test value = same_test (is_least_value finite F n t x value) (int_le value least) (at_most_least value) (at_most_each value)

  -- the rule on an allowed choice
  pub allowed_rule : (y value : ℤ) → is_allowed finite x y ≡ true → value_rule finite F n t x y value
      ≡ cond {A = Option ℕ} (int_le value (value_of finite F n t x (least_choice finite F n t x))) (cond (is_number (value_of finite F n t x y) value) None (Some 5)) (Some 4)
  allowed_rule y value allowed =
      let rest = cond {A = Option ℕ} (is_number (value_of finite F n t x y) value) None (Some 5) in
      ap (λ b. cond {A = Option ℕ} b (cond (is_least_value finite F n t x value) rest (Some 4)) (Some 3)) allowed
      ∙ ap (λ b. cond b rest (Some 4)) (least_test value)
