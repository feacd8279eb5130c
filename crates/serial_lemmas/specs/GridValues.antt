-- Costs of orders and values rest on the values of the next period's grid alone.
use Rattle.std.proofs.Common.{◌≡◌, ℕ, zero, suc, ◌*◌, ◌≤◌, ℤ, pos, ◌+ℤ◌, ◌-ℤ◌, ◌*ℤ◌, ◌≤ℤ◌, ap, arith}
use Rattle.std.proofs.lemmas.Int.{ints, clamps}
use Rattle.std.specs.Int.{int_max, int_min}
use Rattle.demand_law.specs.WeightedSums.{weighted-ext_within}
use Rattle.decision_model.specs.Serial.{serial_low}
use Rattle.decision_model.specs.SerialProblem.{law_of_period, unit_of}
use Rattle.decision_model.specs.SerialSound.{IsSoundSerial, low_next}
use Rattle.decision_model.specs.declared.serial.Serial.{Serial}
use Rattle.serial_lemmas.specs.Levels.{IsTurn}
use Rattle.value_cert.specs.SerialValues.{echelon_value, order_cost, own, scale}

-- costs that agree on the grid pass the same rules
pub turns_same : (C D : ℤ → ℤ) (s low cap : ℤ) → ((y : ℤ) → low ≤ℤ y → y ≤ℤ cap → C y ≡ D y) → IsTurn C s low cap → IsTurn D s low cap
turns_same C D s low cap same rule = record {
  from_low = rule.from_low;
  to_cap = rule.to_cap;
  falls = λ y from lt. omega (arith, ints, rule.falls y from lt, same y from (omega (arith, ints, lt, rule.to_cap)), same (y +ℤ pos 1) (omega (arith, ints, from)) (omega (arith, ints, lt, rule.to_cap)));
  rises = λ y from lt. omega (arith, ints, rule.rises y from lt, same y (omega (arith, ints, from, rule.from_low)) (omega (arith, ints, lt)), same (y +ℤ pos 1) (omega (arith, ints, from, rule.from_low)) (omega (arith, ints, lt)));
}

module _ (serial : Serial) (sound : IsSoundSerial serial) where
  -- costs of orders rest on the values of the next grid alone
  pub costs_same : (F G : ℕ → ℤ → ℤ) (n t i : ℕ) → 1 ≤ t → ((x : ℤ) → serial_low serial (suc t) ≤ℤ x → x ≤ℤ serial.cap → F i x ≡ G i x) → (y : ℤ) → serial_low serial t ≤ℤ y → y ≤ℤ serial.cap → order_cost serial F n t i y ≡ order_cost serial G n t i y
  costs_same F G n t i pt same y from to =
      ap (λ z. pos (scale serial (suc n) * unit_of serial i) *ℤ y +ℤ pos serial.discount_num *ℤ z)
      (weighted-ext_within (law_of_period serial t) (λ d. F i (y -ℤ pos d)) (λ d. G i (y -ℤ pos d))
      (λ d lt. same (y -ℤ pos d) (lower d (serial_low serial (suc t)) (serial_low serial t) (low_next serial t d pt (omega (arith, sound.within t, lt))) from) (omega (arith, ints, to))))
    where
      lower : (d : ℕ) (next low : ℤ) → next ≤ℤ (low -ℤ pos d) → low ≤ℤ y → next ≤ℤ (y -ℤ pos d)
      lower d next low h k = omega (arith, ints, h, k)

  -- values agree where the costs of orders do
  pub values_step : (L : ℕ → ℤ) (C D : ℕ → ℤ → ℤ) (n t i : ℕ) (x : ℤ) → ((j : ℕ) → j ≤ i → (y : ℤ) → serial_low serial t ≤ℤ y → y ≤ℤ serial.cap → C j y ≡ D j y) → ((j : ℕ) → j ≤ i → (serial_low serial t ≤ℤ L j) × (L j ≤ℤ serial.cap)) → serial_low serial t ≤ℤ x → x ≤ℤ serial.cap → echelon_value serial C L n t i x ≡ echelon_value serial D L n t i x
  values_step L C D n t zero x same on from to =
      ap (λ z. own serial n t 0 x -ℤ pos (scale serial (suc n) * unit_of serial 0) *ℤ x +ℤ z +ℤ pos 0)
      (same 0 (omega arith) (int_max x (L 0)) (higher (serial_low serial t) from) (omega (arith, ints, clamps, to, (on 0 (omega arith)).1)))
    where
      higher : (low : ℤ) → low ≤ℤ x → low ≤ℤ int_max x (L 0)
      higher low h = omega (arith, ints, clamps, h)
  values_step L C D n t (suc i) x same on from to =
      let up = same (suc i) (omega arith) (int_max x (L (suc i))) (higher (serial_low serial t) from) (omega (arith, ints, clamps, to, (on (suc i) (omega arith)).1)) in
      let kept = same i (omega arith) (int_min x (L i)) (both (serial_low serial t) from (on i (omega arith)).0) (omega (arith, ints, clamps, to)) in
      let level = same i (omega arith) (L i) (on i (omega arith)).0 (on i (omega arith)).1 in
      omega (arith, ints, up, kept, level)
    where
      higher : (low : ℤ) → low ≤ℤ x → low ≤ℤ int_max x (L (suc i))
      higher low h = omega (arith, ints, clamps, h)

      both : (low : ℤ) → low ≤ℤ x → low ≤ℤ L i → low ≤ℤ int_min x (L i)
      both low h k = omega (arith, ints, clamps, h, k)
