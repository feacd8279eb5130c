-- Values of positions that are within the bound of their period, whatever levels they come from, and those that follow
-- from them a period earlier; and that the least values may stand in a certificate.
use Rattle.std.proofs.Common.{◌≡◌, ℕ, zero, suc, ◌+◌, ◌*◌, ◌^◌, ◌<◌, ◌≤◌, ℤ, pos, ◌≤ℤ◌, length, arith, mul-le-mul_left}
use Rattle.std.specs.Prelude.{unsigned_abs}
use Rattle.decision_model.specs.declared.serial.Serial.{Serial}
use Rattle.decision_model.specs.Serial.{IsReadableSerial, serial_low, serial_width}
use Rattle.decision_model.specs.SerialProblem.{unit_of}
use Rattle.value_cert.specs.SerialValues.{scale, order_cost, echelon_value, solved_values, solved_level}
use Rattle.serial_lemmas.specs.Levels.{IsLevelAt, size_bound}
use Rattle.serial_lemmas.specs.SolvedKept.{level_is}
use Rattle.serial_lemmas.specs.ValueSizes.{IsAt, reach, most, most_first, most_next, order_most, cost_size, value_first, value_next, bound_width}

-- the values of all echelons where n periods are left are within the bound on the grid of period t
abbrev pub AreBounded : Serial → ℕ → ℕ → (ℕ → ℤ → ℤ) → Type 0
AreBounded serial n t F =
    (i : ℕ) (x : ℤ) → i < length serial.holding → serial_low serial t ≤ℤ x → x ≤ℤ serial.cap → unsigned_abs (F i x) ≤ scale serial n * size_bound serial n i

module _ (serial : Serial) (readable : IsReadableSerial serial) where
  module _ (F : ℕ → ℤ → ℤ) (n t : ℕ) (pt : 1 ≤ t) (e : t + n ≡ serial.periods) (bounded : AreBounded serial n (suc t) F) where
    -- the same bound, as a product of a factor
    small : (j : ℕ) (x : ℤ) → j < length serial.holding → IsAt serial readable (suc t) x → unsigned_abs (F j x) ≤ scale serial n * most serial readable n j
    unfolding size_bound
    small j x lt at = bounded j x lt at.from_low at.to_cap

    -- the costs of orders are within the bound of the period before
    pub bounded_costs : AreBounded serial (suc n) t (order_cost serial F n t)
    unfolding size_bound
    bounded_costs i y lt from to =
        let s = scale serial (suc n) in
        let far = reach serial readable in
        let h = cost_size serial readable F n t pt e (most serial readable n) small i y lt (record { from_low = from; to_cap = to }) in
        omega (arith, h, parts s (unit_of serial i * far) (most serial readable n i), mul-le-mul_left s (order_most serial readable n i))
      where
        parts : (s a b : ℕ) → s * a + s * b ≡ s * (a + b)
        parts s a b = omega arith

    -- and so are the values, for any levels on the grid
    pub bounded_values : (L : ℕ → ℤ) → ((j : ℕ) → j < length serial.holding → IsLevelAt (serial_low serial t) serial.cap (L j)) → AreBounded serial (suc n) t (echelon_value serial (order_cost serial F n t) L n t)
    unfolding size_bound
    bounded_values L on zero x lt from to =
        omega (arith, value_first serial readable F n t pt e (most serial readable n) small L (λ j k. record { from_low = (on j k).from_low; to_cap = (on j k).to_cap }) x lt (record { from_low = from; to_cap = to }), mul-le-mul_left (scale serial (suc n)) (most_first serial readable n))
    bounded_values L on (suc j) x lt from to =
        omega (arith, value_next serial readable F n t pt e (most serial readable n) small L (λ j k. record { from_low = (on j k).from_low; to_cap = (on j k).to_cap }) j x lt (record { from_low = from; to_cap = to }), mul-le-mul_left (scale serial (suc n)) (most_next serial readable n j))

  -- no values are within any bound
  pub bounded_last : (t : ℕ) → AreBounded serial 0 t (λ i x. pos 0)
  bounded_last t i x lt from to = omega arith

  -- a bound is at most half of the width number
  pub bound_fits : serial_width serial ≤ 2 ^ 120 → (n i : ℕ) → n ≤ serial.periods → i < length serial.holding → scale serial n * size_bound serial n i ≤ 2 ^ 119
  bound_fits fits n i le lt =
      let whole = bound_width serial readable n i le lt in
      let power : 2 ^ 120 ≡ 2 * 2 ^ 119 = omega arith in
      omega (arith, fits, whole)

  -- the least values are within the bounds
  pub solved_bounded : (n t : ℕ) → 1 ≤ t → t + n ≡ suc serial.periods → AreBounded serial n t (solved_values serial n t)
  solved_bounded zero t pt e = bounded_last t
  solved_bounded (suc n) t pt e =
      bounded_values (solved_values serial n (suc t)) n t pt (omega (arith, e)) (solved_bounded n (suc t) (omega arith) (omega (arith, e))) (solved_level serial n t)
      (λ j lt. let is = level_is serial readable n t j in record { from_low = is.from_low; to_cap = is.to_cap })
