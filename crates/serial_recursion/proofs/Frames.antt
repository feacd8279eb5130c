-- The numbers of a period.
use Rattle.std.proofs.Common.{◌≡◌, ℕ, suc, ◌+◌, ◌-◌, ◌*◌, ◌^◌, ◌<◌, ◌≤◌, ℤ, pos, ◌+ℤ◌, ◌-ℤ◌, ◌≤ℤ◌, sym, ◌∙◌, ap, arith, mul_assoc, mul_comm}
use Rattle.std.proofs.lemmas.Int.{ints}
use Rattle.std.proofs.lemmas.Nat.{mul-le, mul-pow}
use Rattle.std.proofs.Math.Nat.{pow-zero}
use Rattle.demand_law.specs.Integers as Z
use Rattle.demand_law.specs.Sequences.{greatest_in}
use Rattle.decision_model.specs.DemandLaws.{common_total}
use Rattle.decision_model.specs.LawFacts.{common_total_some}
use Rattle.decision_model.specs.Positions.{above_zero}
use Rattle.decision_model.specs.PositionTests.{above_zero_is}
use Rattle.decision_model.specs.Serial.{IsReadableSerial, IsValidSerial, serial_low, serial_positions}
use Rattle.decision_model.specs.SerialSound.{IsSoundSerial, sound_readable, low_zero, low_falls, positions_are}
use Rattle.decision_model.specs.WidthFacts.{serial_scale_fits}
use Rattle.decision_model.specs.declared.serial.Serial.{Serial}
use Rattle.value_cert.specs.SerialValues.{scale, demand_scale, row_width}

module _ (serial : Serial) (valid : IsValidSerial serial) where
  abbrev pub readable : IsReadableSerial serial
  readable = valid.regular.readable

  pub sound : IsSoundSerial serial
  sound = sound_readable serial readable

  -- each grid has a position
  pub low_cap : (t : ℕ) → serial_low serial t ≤ℤ serial.cap
  low_cap t = Z.le_trans (serial_low serial t) (pos 0) serial.cap (low_zero serial t) sound.cap

  -- how many it has
  pub width_is : (t : ℕ) → pos (row_width serial t) ≡ serial.cap -ℤ serial_low serial t +ℤ pos 1
  width_is t = above_zero_is (serial.cap -ℤ serial_low serial t +ℤ pos 1) (some (serial_low serial t) (low_cap t))
    where
      some : (low : ℤ) → low ≤ℤ serial.cap → pos 0 ≤ℤ (serial.cap -ℤ low +ℤ pos 1)
      some low h = omega (arith, ints, h)

  pub width_some : (t : ℕ) → 1 ≤ row_width serial t
  width_some t = some (serial_low serial t) (row_width serial t) (low_cap t) (width_is t)
    where
      some : (low : ℤ) (n : ℕ) → low ≤ℤ serial.cap → pos n ≡ serial.cap -ℤ low +ℤ pos 1 → 1 ≤ n
      some low n h e = omega (arith, ints, h, e)

  -- a place is a position of the grid
  pub place_on : (t k : ℕ) → k < row_width serial t → (serial_low serial t ≤ℤ (serial_low serial t +ℤ pos k)) × ((serial_low serial t +ℤ pos k) ≤ℤ serial.cap)
  place_on t k lt = by (serial_low serial t) (row_width serial t) lt (width_is t)
    where
      by : (low : ℤ) (n : ℕ) → k < n → pos n ≡ serial.cap -ℤ low +ℤ pos 1 → (low ≤ℤ (low +ℤ pos k)) × ((low +ℤ pos k) ≤ℤ serial.cap)
      by low n h e = (omega (arith, ints), omega (arith, ints, h, e))

  -- and a position is one at a place
  pub on_place : (t : ℕ) (x : ℤ) → serial_low serial t ≤ℤ x → x ≤ℤ serial.cap → (serial_low serial t +ℤ pos (above_zero (x -ℤ serial_low serial t)) ≡ x) × (above_zero (x -ℤ serial_low serial t) < row_width serial t)
  on_place t x from to = by (serial_low serial t) (row_width serial t) from (width_is t)
    where
      by : (low : ℤ) (n : ℕ) → low ≤ℤ x → pos n ≡ serial.cap -ℤ low +ℤ pos 1 → (low +ℤ pos (above_zero (x -ℤ low)) ≡ x) × (above_zero (x -ℤ low) < n)
      by low n h e =
          let is : pos (above_zero (x -ℤ low)) ≡ x -ℤ low = above_zero_is (x -ℤ low) (omega (arith, ints, h)) in
          (omega (arith, ints, is), omega (arith, ints, is, e, to))

  -- the next grid begins lower by the greatest demand
  pub low_next_is : (t : ℕ) → 1 ≤ t → serial_low serial (suc t) +ℤ pos (greatest_in serial.laws) ≡ serial_low serial t
  low_next_is t pt = below (ap (λ k. k * greatest_in serial.laws) same ∙ grown (t - 1) (greatest_in serial.laws))
    where
      same : suc t - 1 ≡ suc (t - 1)
      same = omega (arith, pt)

      grown : (k m : ℕ) → suc k * m ≡ k * m + m
      grown k m = omega arith

      below : (suc t - 1) * greatest_in serial.laws ≡ (t - 1) * greatest_in serial.laws + greatest_in serial.laws → serial_low serial (suc t) +ℤ pos (greatest_in serial.laws) ≡ serial_low serial t
      below e = omega (arith, ints, e)

  -- so it has as many positions more
  pub width_next : (t : ℕ) → 1 ≤ t → row_width serial (suc t) ≡ row_width serial t + greatest_in serial.laws
  width_next t pt = by (serial_low serial t) (serial_low serial (suc t)) (row_width serial t) (row_width serial (suc t)) (width_is t) (width_is (suc t)) (low_next_is t pt)
    where
      by : (low next : ℤ) (n more : ℕ) → pos n ≡ serial.cap -ℤ low +ℤ pos 1 → pos more ≡ serial.cap -ℤ next +ℤ pos 1 → next +ℤ pos (greatest_in serial.laws) ≡ low → more ≡ n + greatest_in serial.laws
      by low next n more a b e = omega (arith, ints, a, b, e)

  -- no grid has more than the last one
  pub width_most : (t : ℕ) → t ≤ serial.periods + 1 → row_width serial t ≤ serial_positions serial
  width_most t le = by (serial_low serial t) (serial_low serial (serial.periods + 1)) (row_width serial t) (width_is t) (positions_are serial sound) (low_falls serial t (serial.periods + 1) le)
    where
      by : (low last : ℤ) (n : ℕ) → pos n ≡ serial.cap -ℤ low +ℤ pos 1 → pos (serial_positions serial) ≡ serial.cap -ℤ last +ℤ pos 1 → last ≤ℤ low → n ≤ serial_positions serial
      by low last n a b h = omega (arith, ints, a, b, h)

  -- ---- scales
  pub scale_none : scale serial 0 ≡ 1
  unfolding scale
  scale_none = pow-zero (serial.discount_den * common_total serial.laws)

  pub scale_next : (p : ℕ) → scale serial p * serial.discount_den * common_total serial.laws ≡ scale serial (suc p)
  unfolding scale
  scale_next p =
      let b = serial.discount_den in
      let w = common_total serial.laws in
      mul_assoc ((b * w) ^ p) b w ∙ mul_comm ((b * w) ^ p) (b * w) ∙ Z.pow_first (b * w) p

  pub own_next : (p : ℕ) → scale serial p * serial.discount_den ≡ demand_scale serial p
  unfolding scale demand_scale
  own_next p =
      let b = serial.discount_den in
      let w = common_total serial.laws in
      ap (λ k. k * b) (mul-pow b w p) ∙ turned (b ^ p) (w ^ p) b ∙ ap (λ k. k * w ^ p) (Z.pow_first b p)
    where
      turned : (x y b : ℕ) → x * y * b ≡ b * x * y
      turned x y b = mul_comm (x * y) b ∙ sym (mul_assoc b x y)

  pub scale_fits : (p : ℕ) → p ≤ serial.periods → scale serial p ≤ 2 ^ 120
  unfolding scale
  scale_fits p le = serial_scale_fits serial readable valid.width p le

  pub own_fits : (p : ℕ) → p < serial.periods → scale serial p * serial.discount_den ≤ 2 ^ 120
  own_fits p lt =
      let s = scale serial p * serial.discount_den in
      let w = common_total serial.laws in
      let some = common_total_some serial.laws serial.periods readable.periods.least readable.laws in
      omega (arith, mul-le s 1 s w (omega arith) some, scale_next p, scale_fits (suc p) (omega (arith, lt)))
