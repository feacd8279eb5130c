-- Levels that pass the checker's rules name a policy that costs least.
use Rattle.std.proofs.Common.{◌≡◌, ℕ, zero, suc, ◌+◌, ◌-◌, ◌*◌, ◌^◌, ◌≤◌, ℤ, pos, ◌+ℤ◌, ◌-ℤ◌, ◌*ℤ◌, ◌≤ℤ◌, IsTrue, ◌==◌, List, [], ◌∷◌, length, refl, sym, ◌∙◌, ap, arith, subst}
use Rattle.std.proofs.lemmas.Int.{ints}
use Rattle.std.proofs.lemmas.Bool.{eqb-true, and_parts}
use Rattle.std.specs.Int.{int_max}
use Rattle.std.specs.Int.Signed.{≤ℤ_refl}
use Rattle.demand_law.specs.Sequences.{laws_from}
use Rattle.demand_law.specs.Integers as Z
use Rattle.demand_law.specs.SequenceSums.{over-zero, over-ext}
use Rattle.decision_model.specs.Bounds.{IsAboveFrom, IsBelow, end_sum, one_step, rest_from, state_after}
use Rattle.decision_model.specs.Policies.{IsAllowed, IsAllowedFrom, Least, Policy, expected}
use Rattle.decision_model.specs.Serial.{serial_low}
use Rattle.decision_model.specs.SerialProblem.{after_demand, are_allowed, are_ordered, law_of_period, over_echelons, serial_problem, unit_of}
use Rattle.decision_model.specs.SerialSound.{IsSoundSerial, on_grid}
use Rattle.decision_model.specs.SerialStates.{allowed_length}
use Rattle.decision_model.specs.declared.serial.Serial.{Serial}
use Rattle.policy_bound.specs.PolicyBound.{lower_bound, upper_bound}
use Rattle.serial_lemmas.specs.Levels.{AreTurns, total_value}
use Rattle.serial_lemmas.specs.Links.{links_least, links_reached}
use Rattle.serial_lemmas.specs.SerialStep.{step_is}
use Rattle.value_cert.specs.SerialValues.{base_stock, base_stock_policy, order_costs, own, penalty, scale, values}
use Rattle.serial_lemmas.specs.BaseStock.{base_stock_allowed}

-- a sum over echelons, part by part
parts_of : (o u c p : ℕ → ℤ → ℤ) (i : ℕ) (xs : List ℤ) → over_echelons (λ j x. o j x -ℤ u j x +ℤ c j x +ℤ p j x) i xs ≡ over_echelons o i xs -ℤ over_echelons u i xs +ℤ over_echelons (λ j x. c j x +ℤ p j x) i xs
parts_of o u c p i [] = refl
parts_of o u c p i (x ∷ xs) = omega (arith, ints, parts_of o u c p (suc i) xs)

-- nothing adds up to 0
echelons-zero : (i : ℕ) (xs : List ℤ) → over_echelons (λ j x. pos 0) i xs ≡ pos 0
echelons-zero i [] = refl
echelons-zero i (x ∷ xs) = omega (arith, ints, echelons-zero (suc i) xs)

module _ (serial : Serial) (sound : IsSoundSerial serial) (S : ℕ → ℕ → ℤ) (passing : AreTurns serial S) where
  -- the sum of values in a period that n periods follow
  value_here : (n t : ℕ) (xs : List ℤ) → t + n ≡ serial.periods → total_value serial S t xs ≡ over_echelons (values serial S (suc n) t) 0 xs
  value_here n t xs e =
      let left : suc serial.periods - t ≡ suc n = omega (arith, e) in
      ap (λ k. over_echelons (values serial S k t) 0 xs) left

  -- in the next period
  value_next : (n t : ℕ) (xs : List ℤ) → t + n ≡ serial.periods → total_value serial S (suc t) xs ≡ over_echelons (values serial S n (suc t)) 0 xs
  value_next n t xs e =
      let left : suc serial.periods - suc t ≡ n = omega (arith, e) in
      ap (λ k. over_echelons (values serial S k (suc t)) 0 xs) left

  -- one step is at least the sum of values, and reaches it
  step_least : (n t : ℕ) (xs ys : List ℤ) → 1 ≤ t → t + n ≡ serial.periods → length xs ≡ length serial.holding → IsTrue (are_ordered (serial_low serial t) serial.cap xs) → IsTrue (are_allowed serial.cap xs ys) → total_value serial S t xs ≤ℤ one_step (serial_problem serial) (total_value serial S) n t xs ys
  step_least n t [] ys pt e as_many on ok = absurd (omega (arith, as_many, sound.some_echelon))
  step_least n t (x ∷ xs) ys pt e as_many on ok =
      let C = order_costs serial S n t in
      let linked = links_least C (S t) (serial_low serial t) serial.cap (length serial.holding) 0 (x ∷ xs) ys (λ j lt. passing n t j pt e lt) (omega (arith, as_many)) on ok in
      let step = step_is serial sound.same_sum (total_value serial S) (values serial S n (suc t)) n t x xs ys (allowed_length serial.cap (x ∷ xs) ys ok) (λ zs. value_next n t zs e) in
      let parts = parts_of (own serial n t) (λ j z. pos (scale serial (suc n) * unit_of serial j) *ℤ z) (λ j z. C j (int_max z (S t j))) (penalty C (S t)) 0 (x ∷ xs) in
      omega (arith, ints, linked, step, parts, value_here n t (x ∷ xs) e)

  -- the base-stock policy's step reaches it
  step_reached : (n t : ℕ) (xs : List ℤ) → 1 ≤ t → t + n ≡ serial.periods → length xs ≡ length serial.holding → IsTrue (are_ordered (serial_low serial t) serial.cap xs) → IsTrue (are_allowed serial.cap xs (base_stock (S t) 0 xs)) → one_step (serial_problem serial) (total_value serial S) n t xs (base_stock (S t) 0 xs) ≡ total_value serial S t xs
  step_reached n t [] pt e as_many on ok = absurd (omega (arith, as_many, sound.some_echelon))
  step_reached n t (x ∷ xs) pt e as_many on ok =
      let C = order_costs serial S n t in
      let linked = links_reached C (S t) (serial_low serial t) serial.cap (length serial.holding) 0 (x ∷ xs) (λ j lt. passing n t j pt e lt) (omega (arith, as_many)) on in
      let step = step_is serial sound.same_sum (total_value serial S) (values serial S n (suc t)) n t x xs (base_stock (S t) 0 (x ∷ xs)) (allowed_length serial.cap (x ∷ xs) (base_stock (S t) 0 (x ∷ xs)) ok) (λ zs. value_next n t zs e) in
      let parts = parts_of (own serial n t) (λ j z. pos (scale serial (suc n) * unit_of serial j) *ℤ z) (λ j z. C j (int_max z (S t j))) (penalty C (S t)) 0 (x ∷ xs) in
      omega (arith, ints, linked, step, parts, value_here n t (x ∷ xs) e)

  -- no step undercuts the sums of values
  is_below : IsBelow (serial_problem serial) (total_value serial S)
  is_below n t xs ys pt e on ok =
      let here = and_parts (length xs == length serial.holding) (are_ordered (serial_low serial t) serial.cap xs) on in
      step_least n t xs ys pt e (eqb-true (length xs) (length serial.holding) here.0) here.1 ok

  -- the policy's choice at a state
  choice_allowed : (n t : ℕ) (xs : List ℤ) → 1 ≤ t → t + n ≡ serial.periods → IsTrue ((serial_problem serial).grid t xs) → IsTrue (are_allowed serial.cap xs (base_stock (S t) 0 xs))
  choice_allowed n t xs pt e on =
      let here = and_parts (length xs == length serial.holding) (are_ordered (serial_low serial t) serial.cap xs) on in
      base_stock_allowed (serial_low serial t) serial.cap (S t) (length serial.holding) 0 xs (λ j lt. (passing n t j pt e lt).to_cap) (omega (arith, eqb-true (length xs) (length serial.holding) here.0)) here.1

  -- the policy's choices are allowed
  policy_allowed : (n t : ℕ) (xs : List ℤ) → 1 ≤ t → t + n ≡ suc serial.periods → IsTrue ((serial_problem serial).grid t xs) → IsAllowedFrom (serial_problem serial) n t xs (base_stock_policy S t xs)
  policy_allowed zero t xs pt e on = tt
  policy_allowed (suc n) t xs pt e on =
      let ok = choice_allowed n t xs pt (omega arith) on in
      (ok, λ d lt. policy_allowed n (suc t) (after_demand (base_stock (S t) 0 xs) d) (omega arith) (omega arith) ((on_grid serial sound).next t d xs (base_stock (S t) 0 xs) pt on ok lt))

  -- and its steps reach the sums
  is_above : (n t : ℕ) (xs : List ℤ) → 1 ≤ t → t + n ≡ suc serial.periods → IsTrue ((serial_problem serial).grid t xs) → IsAboveFrom (serial_problem serial) (total_value serial S) n t xs (base_stock_policy S t xs)
  is_above zero t xs pt e on = tt
  is_above (suc n) t xs pt e on =
      let here = and_parts (length xs == length serial.holding) (are_ordered (serial_low serial t) serial.cap xs) on in
      let ok = choice_allowed n t xs pt (omega arith) on in (
        subst (λ (z : ℤ). z ≤ℤ total_value serial S t xs) (sym (step_reached n t xs pt (omega arith) (eqb-true (length xs) (length serial.holding) here.0) here.1 ok)) (≤ℤ_refl (total_value serial S t xs)),
        λ d lt. is_above n (suc t) (after_demand (base_stock (S t) 0 xs) d) (omega arith) (omega arith) ((on_grid serial sound).next t d xs (base_stock (S t) 0 xs) pt on ok lt),
      )

  -- nothing is left at the end
  rest_zero : (choose : Policy (List ℤ)) → rest_from (serial_problem serial) (total_value serial S) serial.periods 1 serial.start choose ≡ pos 0
  rest_zero choose =
      ap (λ z. pos (serial.discount_num ^ serial.periods) *ℤ z)
      (over-ext (laws_from (law_of_period serial) 1 serial.periods) _ (λ ds. pos 0) (λ ds s. none (state_after (serial_problem serial) serial.start choose ds))
      ∙ over-zero (laws_from (law_of_period serial) 1 serial.periods))
      ∙ Z.mul_zero (pos (serial.discount_num ^ serial.periods))
    where
      none : (xs : List ℤ) → end_sum (serial_problem serial) xs -ℤ total_value serial S (suc serial.periods) xs ≡ pos 0
      none xs =
          let left : suc serial.periods - suc serial.periods ≡ 0 = omega arith in
          let last = ap (λ k. over_echelons (values serial S k (suc serial.periods)) 0 xs) left ∙ echelons-zero 0 xs in
          omega (arith, ints, last, over-zero (laws_from (law_of_period serial) (suc serial.periods) 0))

  -- the policy of the levels costs least, and what it costs is the sum of the echelons' values at the start
  pub serial_least : Least (serial_problem serial) (base_stock_policy S 1 serial.start) (total_value serial S 1 serial.start)
  serial_least = record {
    allowed = allowed;
    cost = Z.le_antisym _ _ most (least (base_stock_policy S 1 serial.start) allowed);
    least = least;
  }
    where
      start_on : IsTrue ((serial_problem serial).grid 1 serial.start)
      start_on = (on_grid serial sound).start

      allowed : IsAllowed (serial_problem serial) (base_stock_policy S 1 serial.start)
      allowed = policy_allowed serial.periods 1 serial.start (omega arith) (omega arith) start_on

      least : (other : Policy (List ℤ)) → IsAllowed (serial_problem serial) other → total_value serial S 1 serial.start ≤ℤ expected (serial_problem serial) other
      least other ok =
          let h = lower_bound (serial_problem serial) (total_value serial S) (on_grid serial sound) is_below serial.periods 1 serial.start other (omega arith) (omega arith) start_on ok in
          omega (arith, ints, h, rest_zero other)

      most : expected (serial_problem serial) (base_stock_policy S 1 serial.start) ≤ℤ total_value serial S 1 serial.start
      most =
          let h = upper_bound (serial_problem serial) (total_value serial S) serial.periods 1 serial.start (base_stock_policy S 1 serial.start) (omega arith) (is_above serial.periods 1 serial.start (omega arith) (omega arith) start_on) in
          omega (arith, ints, h, rest_zero (base_stock_policy S 1 serial.start))
