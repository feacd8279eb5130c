-- A certificate that passes the rules has the values of its levels, and its policy costs least.
use Rattle.std.proofs.Common.{◌≡◌, ℕ, zero, suc, ◌+◌, ◌-◌, ◌<◌, ◌≤◌, ℤ, ◌≤ℤ◌, IsTrue, List, [], ◌∷◌, length, refl, sym, ◌∙◌, ap, arith, subst, int_le}
use Rattle.std.proofs.lemmas.Int.{ints}
use Rattle.std.specs.Int.Signed.{≤ℤ_refl}
use Rattle.demand_law.specs.Integers as Z
use Rattle.decision_model.specs.Policies.{Least}
use Rattle.decision_model.specs.PositionTests.{le_known}
use Rattle.decision_model.specs.Serial.{serial_low}
use Rattle.decision_model.specs.SerialProblem.{are_ordered, over_echelons, serial_problem}
use Rattle.decision_model.specs.SerialSound.{IsSoundSerial}
use Rattle.decision_model.specs.SerialStates.{ordered_cap, ordered_low}
use Rattle.decision_model.specs.declared.serial.Serial.{Serial}
use Rattle.serial_lemmas.specs.Levels.{AreTurns, IsCertificate, total_value}
use Rattle.serial_lemmas.specs.GridValues.{turns_same, costs_same, values_step}
use Rattle.serial_lemmas.specs.SerialLeast.{serial_least}
use Rattle.std.proofs.lemmas.Bool.{and_parts}
use Rattle.value_cert.specs.SerialValues.{base_stock_policy, order_cost, order_costs, values}

module _ (serial : Serial) (sound : IsSoundSerial serial) (S : ℕ → ℕ → ℤ) (F : ℕ → ℕ → ℤ → ℤ) (good : IsCertificate serial S F) where
  -- the values of a certificate are those of its levels
  pub cells_are_values : (n t i : ℕ) (x : ℤ) → 1 ≤ t → t + n ≡ suc serial.periods → i < length serial.holding → serial_low serial t ≤ℤ x → x ≤ℤ serial.cap → F n i x ≡ values serial S n t i x
  cells_are_values zero t i x pt e lt from to = good.last i x
  cells_are_values (suc n) t i x pt e lt from to =
      good.exact n t i x pt (omega (arith, e)) lt from to
      ∙ values_step serial sound (S t) (order_cost serial (F n) n t) (order_costs serial S n t) n t i x
      (λ j le. costs_same serial sound (F n) (values serial S n (suc t)) n t j pt (λ y from to. cells_are_values n (suc t) j y (omega arith) (omega (arith, e)) (omega (arith, le, lt)) from to))
      (λ j le. let rule = good.levels n t j pt (omega (arith, e)) (omega (arith, le, lt)) in (rule.from_low, rule.to_cap))
      from to

  -- and its costs of orders turn at them
  pub passing : AreTurns serial S
  passing n t i pt e lt =
      turns_same (order_cost serial (F n) n t i) (order_costs serial S n t i) (S t i) (serial_low serial t) serial.cap
      (costs_same serial sound (F n) (values serial S n (suc t)) n t i pt (λ y from to. cells_are_values n (suc t) i y (omega arith) (omega (arith, e)) lt from to))
      (good.levels n t i pt e lt)

  -- the sum of the cells at the start
  cells_sum : (low : ℤ) (i : ℕ) (xs : List ℤ) → serial_low serial 1 ≤ℤ low → i + length xs ≡ length serial.holding → IsTrue (are_ordered low serial.cap xs) → over_echelons (F serial.periods) i xs ≡ over_echelons (values serial S serial.periods 1) i xs
  cells_sum low i [] h e on = refl
  cells_sum low i (x ∷ xs) h e on =
      let here = and_parts (int_le low x) (are_ordered x serial.cap xs) on in
      let from = Z.le_trans _ _ _ h (le_known low x here.0) in
      let to = ordered_low x serial.cap xs here.1 in
      let most = ordered_cap x serial.cap xs here.1 in
      let value = cells_are_values serial.periods 1 i x (omega arith) (omega arith) (omega (arith, e)) from (Z.le_trans _ _ _ to most) in
      omega (arith, ints, value, cells_sum x (suc i) xs from (omega (arith, e)) here.1)

  -- its policy costs least
  pub certified : Least (serial_problem serial) (base_stock_policy S 1 serial.start) (over_echelons (F serial.periods) 0 serial.start)
  certified =
      let left : suc serial.periods - 1 ≡ serial.periods = omega arith in
      let total : total_value serial S 1 serial.start ≡ over_echelons (F serial.periods) 0 serial.start =
      ap (λ k. over_echelons (values serial S k 1) 0 serial.start) left ∙ sym (cells_sum (serial_low serial 1) 0 serial.start (≤ℤ_refl (serial_low serial 1)) (omega (arith, sound.start_each)) sound.start_ordered) in
      subst (λ (v : ℤ). Least (serial_problem serial) (base_stock_policy S 1 serial.start) v) total (serial_least serial sound S passing)
