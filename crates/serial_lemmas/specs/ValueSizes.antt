-- The values and the costs of orders are within the bounds, for every list of levels on the grid.
use Rattle.std.proofs.Common.{◌≡◌, ℕ, zero, suc, ◌+◌, ◌-◌, ◌*◌, ◌^◌, ◌<◌, ◌≤◌, ℤ, pos, ◌+ℤ◌, ◌-ℤ◌, ◌*ℤ◌, ◌≤ℤ◌, length, sum, slice_index_or, sym, ◌∙◌, ap, arith, subst, mul-le-mul_left, mul_assoc, mul_comm}
use Rattle.std.proofs.lemmas.Int.{ints, clamps}
use Rattle.std.proofs.lemmas.Nat.{mul-le, mul-pow}
use Rattle.std.proofs.Math.Nat.{pow-le-pow_left, pow-le-pow_right}
use Rattle.std.specs.Prelude.{unsigned_abs}
use Rattle.std.specs.Int.{int_max, int_min}
use Rattle.demand_law.specs.Law.{weighted}
use Rattle.demand_law.specs.Sequences.{greatest_in}
use Rattle.demand_law.specs.Integers as Z
use Rattle.decision_model.specs.DemandLaws.{common_total}
use Rattle.decision_model.specs.LawFacts.{common_total_some}
use Rattle.decision_model.specs.Serial.{IsReadableSerial, serial_cost_bound, serial_low, serial_positions, serial_width}
use Rattle.decision_model.specs.SerialProblem.{holding_of, lacking_rate, law_of_period, unit_of}
use Rattle.decision_model.specs.SerialSound.{IsSoundSerial, sound_readable, low_falls, low_zero, positions_are}
use Rattle.decision_model.specs.declared.serial.Serial.{Serial}
use Rattle.serial_lemmas.specs.Levels.{size_bound, AreOnGrid}
use Rattle.serial_lemmas.specs.SerialStep.{scale_is}
use Rattle.serial_lemmas.specs.Sizes.{entry_most, factor, factor_first, factor_next, neighbours_most, size_add, size_mul, size_own, size_sub, size_weighted}
use Rattle.value_cert.specs.SerialValues.{echelon_value, order_cost, order_costs, own, own_cost, penalty, scale, values, demand_scale}

-- a factor comes out of a product of three
out : (s u r : ℕ) → s * u * r ≡ s * (u * r)
out s u r = mul_assoc s u r

module _ (serial : Serial) (readable : IsReadableSerial serial) where
  -- the greatest demand
  abbrev pub m : ℕ
  m = greatest_in serial.laws

  -- the sum of weights of each law
  abbrev pub w : ℕ
  w = common_total serial.laws

  -- no position of a grid, after a demand too, lies further from 0 or from another one
  abbrev pub reach : ℕ
  reach = serial_positions serial + m

  -- the instance is sound
  pub sound : IsSoundSerial serial
  sound = sound_readable serial readable

  -- what is known of a position of a period's grid
  pub record IsAt (t : ℕ) (x : ℤ) : Type 0 where
    pub from_low : serial_low serial t ≤ℤ x
    pub to_cap : x ≤ℤ serial.cap

  -- no position after a demand is far from 0
  within_reach : (t d : ℕ) (x : ℤ) → 1 ≤ t → t ≤ serial.periods + 1 → IsAt t x → d ≤ m → unsigned_abs (x -ℤ pos d) ≤ reach
  within_reach t d x pt le at small =
      far (serial_low serial (serial.periods + 1)) (serial_low serial t) (serial_positions serial) (positions_are serial sound) (low_falls serial t (serial.periods + 1) le) (low_zero serial (serial.periods + 1)) at.from_low
    where
      far : (last low : ℤ) (n : ℕ) → pos n ≡ serial.cap -ℤ last +ℤ pos 1 → last ≤ℤ low → last ≤ℤ pos 0 → low ≤ℤ x → unsigned_abs (x -ℤ pos d) ≤ n + m
      far last low n e le none from = omega (arith, ints, e, le, none, from, at.to_cap, small, readable.cap.least)

  -- no position is
  pub near : (t : ℕ) (x : ℤ) → 1 ≤ t → t ≤ serial.periods + 1 → IsAt t x → unsigned_abs x ≤ reach
  near t x pt le at = subst (λ (z : ℤ). unsigned_abs z ≤ reach) (none x) (within_reach t 0 x pt le at (omega arith))
    where
      none : (x : ℤ) → x -ℤ pos 0 ≡ x
      none x = omega (arith, ints)

  -- no two positions are far apart
  apart : (t : ℕ) (x y : ℤ) → 1 ≤ t → t ≤ serial.periods + 1 → IsAt t x → IsAt t y → unsigned_abs (x -ℤ y) ≤ reach
  apart t x y pt le at at_y =
      far (serial_low serial (serial.periods + 1)) (serial_low serial t) (serial_positions serial) (positions_are serial sound) (low_falls serial t (serial.periods + 1) le) at.from_low at_y.from_low
    where
      far : (last low : ℤ) (n : ℕ) → pos n ≡ serial.cap -ℤ last +ℤ pos 1 → last ≤ℤ low → low ≤ℤ x → low ≤ℤ y → unsigned_abs (x -ℤ y) ≤ n + m
      far last low n e le from from_y = omega (arith, ints, e, le, from, from_y, at.to_cap, at_y.to_cap)

  -- ---- the parts of a value
  rate_most : (i : ℕ) → holding_of serial i ≤ lacking_rate serial
  unfolding lacking_rate
  rate_most i = omega (arith, entry_most serial.holding i)

  -- what an echelon's stock costs at a demand
  own_cost_size : (i d : ℕ) (x : ℤ) → unsigned_abs (x -ℤ pos d) ≤ reach → unsigned_abs (own_cost serial i x d) ≤ lacking_rate serial * reach
  own_cost_size zero d x far = size_own (holding_of serial 0) (lacking_rate serial) reach d x (rate_most 0) far
  own_cost_size (suc i) d x far =
      omega (arith, size_mul (holding_of serial (suc i)) (x -ℤ pos d) reach far, mul-le (holding_of serial (suc i)) reach (lacking_rate serial) reach (rate_most (suc i)) (omega arith))

  -- and by the weights of a period
  pub own_size : (n t i : ℕ) (x : ℤ) → 1 ≤ t → t ≤ serial.periods + 1 → IsAt t x → unsigned_abs (own serial n t i x) ≤ scale serial (suc n) * (lacking_rate serial * reach)
  unfolding demand_scale
  own_size n t i x pt le at =
      let c = serial.discount_den ^ suc n * w ^ n in
      let k = lacking_rate serial * reach in
      let law = law_of_period serial t in
      let inner = size_weighted law (own_cost serial i x) k (λ d lt. own_cost_size i d x (within_reach t d x pt le at (omega (arith, sound.within t, lt)))) in
      let whole = size_mul c (weighted law (own_cost serial i x)) (sum law * k) inner in
      subst (λ (b : ℕ). unsigned_abs (own serial n t i x) ≤ b)
      (ap (λ v. c * (v * k)) (sound.same_sum t) ∙ sym (mul_assoc c w k) ∙ ap (λ v. v * k) (scale_is serial sound.same_sum n))
      whole

  module _ (F : ℕ → ℤ → ℤ) (n t : ℕ) (pt : 1 ≤ t) (e : t + n ≡ serial.periods) (bound : ℕ → ℕ) (small : (j : ℕ) (x : ℤ) → j < length serial.holding → IsAt (suc t) x → unsigned_abs (F j x) ≤ scale serial n * bound j) where
    -- what comes after an order
    abbrev later : ℕ → ℤ → ℤ
    later j y = pos serial.discount_num *ℤ weighted (law_of_period serial t) (λ d. F j (y -ℤ pos d))

    -- a demand leads to the next period's grid
    after_demand : (d : ℕ) (y : ℤ) → IsAt t y → d ≤ m → IsAt (suc t) (y -ℤ pos d)
    after_demand d y at le = record {
      from_low = lower (int_min (slice_index_or serial.start 0 (pos 0)) (pos 0)) (t - 1) (suc t - 1) (omega (arith, pt)) at.from_low;
      to_cap = omega (arith, ints, at.to_cap);
    }
      where
        lower : (start : ℤ) (s s' : ℕ) → s' ≡ suc s → (start -ℤ pos (s * m)) ≤ℤ y → (start -ℤ pos (s' * m)) ≤ℤ (y -ℤ pos d)
        lower start s s' same from =
            let more : s' * m ≡ s * m + m = ap (λ k. k * m) same ∙ omega arith in
            omega (arith, ints, from, more, le)

    -- what comes after an order
    later_size : (j : ℕ) (y : ℤ) → j < length serial.holding → IsAt t y → unsigned_abs (later j y) ≤ scale serial (suc n) * bound j
    unfolding scale
    later_size j y lt at =
        let a = serial.discount_num in
        let b = serial.discount_den in
        let s = (b * w) ^ n in
        let law = law_of_period serial t in
        let inner = size_weighted law (λ d. F j (y -ℤ pos d)) (s * bound j) (λ d k. small j (y -ℤ pos d) lt (after_demand d y at (omega (arith, sound.within t, k)))) in
        let whole = size_mul a (weighted law (λ d. F j (y -ℤ pos d))) (sum law * (s * bound j)) inner in
        let same = ap (λ v. a * (v * (s * bound j))) (sound.same_sum t) in
        let more = mul-le a (w * (s * bound j)) b (w * (s * bound j)) readable.discount.proper (omega arith) in
        let joined : b * (w * (s * bound j)) ≡ (b * w) ^ suc n * bound j = sym (mul_assoc b w (s * bound j)) ∙ sym (mul_assoc (b * w) s (bound j)) ∙ ap (λ v. v * bound j) (Z.pow_first (b * w) n) in
        omega (arith, whole, same, more, joined)

    -- the period is one of the instance
    in_range : t ≤ serial.periods + 1
    in_range = omega (arith, e)

    -- the cost of an order
    pub cost_size : (j : ℕ) (y : ℤ) → j < length serial.holding → IsAt t y → unsigned_abs (order_cost serial F n t j y) ≤ scale serial (suc n) * (unit_of serial j * reach) + scale serial (suc n) * bound j
    cost_size j y lt at =
        let s = scale serial (suc n) in
        let line = size_mul (s * unit_of serial j) y reach (near t y pt in_range at) in
        size_add (pos (s * unit_of serial j) *ℤ y) (later j y) (s * (unit_of serial j * reach)) (s * bound j)
        (subst (λ (b : ℕ). unsigned_abs (pos (s * unit_of serial j) *ℤ y) ≤ b) (out s (unit_of serial j) reach) line)
        (later_size j y lt at)

    -- .. against that of another
    difference_size : (j : ℕ) (y z : ℤ) → j < length serial.holding → IsAt t y → IsAt t z → unsigned_abs (order_cost serial F n t j y -ℤ order_cost serial F n t j z) ≤ scale serial (suc n) * (unit_of serial j * reach) + (scale serial (suc n) * bound j + scale serial (suc n) * bound j)
    difference_size j y z lt at_y at_z =
        let s = scale serial (suc n) in
        let c = pos (s * unit_of serial j) in
        let gap : (y -ℤ z) +ℤ z ≡ y = omega (arith, ints) in
        let line = subst (λ (b : ℕ). unsigned_abs (c *ℤ (y -ℤ z)) ≤ b) (out s (unit_of serial j) reach) (size_mul (s * unit_of serial j) (y -ℤ z) reach (apart t y z pt in_range at_y at_z)) in
        let tails = size_sub (later j y) (later j z) (s * bound j) (s * bound j) (later_size j y lt at_y) (later_size j z lt at_z) in
        let split : order_cost serial F n t j y -ℤ order_cost serial F n t j z ≡ c *ℤ (y -ℤ z) +ℤ (later j y -ℤ later j z) = omega (arith, ints, Z.mul_add c (y -ℤ z) z, ap (λ v. c *ℤ v) gap) in
        subst (λ (v : ℤ). unsigned_abs v ≤ s * (unit_of serial j * reach) + (s * bound j + s * bound j)) (sym split)
        (size_add (c *ℤ (y -ℤ z)) (later j y -ℤ later j z) (s * (unit_of serial j * reach)) (s * bound j + s * bound j) line tails)

    module _ (L : ℕ → ℤ) (on_grid : (j : ℕ) → j < length serial.holding → IsAt t (L j)) where
      -- the greater of a position and a level is on the grid
      at_max : (x : ℤ) (j : ℕ) → j < length serial.holding → IsAt t x → IsAt t (int_max x (L j))
      at_max x j lt at = record { from_low = both (serial_low serial t) at.from_low; to_cap = omega (arith, ints, clamps, at.to_cap, (on_grid j lt).to_cap) }
        where
          both : (low : ℤ) → low ≤ℤ x → low ≤ℤ int_max x (L j)
          both low h = omega (arith, ints, clamps, h)

      -- so is the lesser
      at_min : (x : ℤ) (j : ℕ) → j < length serial.holding → IsAt t x → IsAt t (int_min x (L j))
      at_min x j lt at = record { from_low = both (serial_low serial t) at.from_low (on_grid j lt).from_low; to_cap = omega (arith, ints, clamps, at.to_cap) }
        where
          both : (low : ℤ) → low ≤ℤ x → low ≤ℤ L j → low ≤ℤ int_min x (L j)
          both low h k = omega (arith, ints, clamps, h, k)

      -- what an echelon pays less what it has, and what is charged for it
      abbrev paid : ℕ → ℕ
      paid j = unit_of serial j * reach

      -- an echelon's own cost, and what it pays to its level
      front_size : (j : ℕ) (x : ℤ) → j < length serial.holding → IsAt t x → unsigned_abs (own serial n t j x -ℤ pos (scale serial (suc n) * unit_of serial j) *ℤ x +ℤ order_cost serial F n t j (int_max x (L j))) ≤ scale serial (suc n) * (lacking_rate serial * reach) + (scale serial (suc n) * paid j + scale serial (suc n) * bound j)
      front_size j x lt at =
          let s = scale serial (suc n) in
          let c = pos (s * unit_of serial j) in
          let y = int_max x (L j) in
          let at_y = at_max x j lt at in
          let gap : (y -ℤ x) +ℤ x ≡ y = omega (arith, ints) in
          let line = subst (λ (b : ℕ). unsigned_abs (c *ℤ (y -ℤ x)) ≤ b) (out s (unit_of serial j) reach) (size_mul (s * unit_of serial j) (y -ℤ x) reach (apart t y x pt in_range at_y at)) in
          let order = size_add (c *ℤ (y -ℤ x)) (later j y) (s * paid j) (s * bound j) line (later_size j y lt at_y) in
          let split : own serial n t j x -ℤ c *ℤ x +ℤ order_cost serial F n t j y ≡ own serial n t j x +ℤ (c *ℤ (y -ℤ x) +ℤ later j y) = regroup (own serial n t j x) (c *ℤ x) (c *ℤ y) (c *ℤ (y -ℤ x)) (later j y) (sym (Z.mul_add c (y -ℤ x) x) ∙ ap (λ v. c *ℤ v) gap) in
          subst (λ (v : ℤ). unsigned_abs v ≤ s * (lacking_rate serial * reach) + (s * paid j + s * bound j)) (sym split)
          (size_add (own serial n t j x) (c *ℤ (y -ℤ x) +ℤ later j y) (s * (lacking_rate serial * reach)) (s * paid j + s * bound j) (own_size n t j x pt in_range at) order)
        where
          regroup : (o cx cy cd l : ℤ) → cd +ℤ cx ≡ cy → o -ℤ cx +ℤ (cy +ℤ l) ≡ o +ℤ (cd +ℤ l)
          regroup o cx cy cd l e = omega (arith, ints, e)

      -- the value of the first echelon
      pub value_first : (x : ℤ) → 0 < length serial.holding → IsAt t x → unsigned_abs (echelon_value serial (order_cost serial F n t) L n t 0 x) ≤ scale serial (suc n) * (lacking_rate serial * reach + paid 0 + bound 0)
      value_first x lt at =
          let s = scale serial (suc n) in
          subst (λ (b : ℕ). unsigned_abs (echelon_value serial (order_cost serial F n t) L n t 0 x) ≤ b) (spread s (lacking_rate serial * reach) (paid 0) (bound 0))
          (size_add (own serial n t 0 x -ℤ pos (s * unit_of serial 0) *ℤ x +ℤ order_cost serial F n t 0 (int_max x (L 0))) (pos 0) (s * (lacking_rate serial * reach) + (s * paid 0 + s * bound 0)) 0 (front_size 0 x lt at) (omega arith))
        where
          spread : (s a b c : ℕ) → s * a + (s * b + s * c) + 0 ≡ s * (a + b + c)
          spread s a b c = omega arith

      -- and of each other one
      pub value_next : (j : ℕ) (x : ℤ) → suc j < length serial.holding → IsAt t x → unsigned_abs (echelon_value serial (order_cost serial F n t) L n t (suc j) x) ≤ scale serial (suc n) * (lacking_rate serial * reach + paid (suc j) + bound (suc j) + (paid j + 2 * bound j))
      value_next j x lt at =
          let s = scale serial (suc n) in
          let before : j < length serial.holding = omega (arith, lt) in
          subst (λ (b : ℕ). unsigned_abs (echelon_value serial (order_cost serial F n t) L n t (suc j) x) ≤ b) (spread s (lacking_rate serial * reach) (paid (suc j)) (bound (suc j)) (paid j) (bound j))
          (size_add (own serial n t (suc j) x -ℤ pos (s * unit_of serial (suc j)) *ℤ x +ℤ order_cost serial F n t (suc j) (int_max x (L (suc j)))) (penalty (order_cost serial F n t) L (suc j) x)
          (s * (lacking_rate serial * reach) + (s * paid (suc j) + s * bound (suc j))) (s * paid j + (s * bound j + s * bound j))
          (front_size (suc j) x lt at)
          (difference_size j (int_min x (L j)) (L j) before (at_min x j before at) (on_grid j before)))
        where
          spread : (s a b c d e : ℕ) → s * a + (s * b + s * c) + (s * d + (s * e + s * e)) ≡ s * (a + b + c + (d + 2 * e))
          spread s a b c d e = omega arith

  -- ---- the bounds
  abbrev pub most : ℕ → ℕ → ℕ
  most n j = factor n j * serial_cost_bound serial

  -- the rates of the first echelon are within the cost bound
  pub rates_first : lacking_rate serial * reach + unit_of serial 0 * reach + 1 ≤ serial_cost_bound serial
  unfolding serial_cost_bound lacking_rate
  rates_first =
      let k = serial.stockout + sum serial.holding in
      let one = mul-le (k + unit_of serial 0) reach (k + sum serial.unit) reach (omega (arith, entry_most serial.unit 0)) (omega arith) in
      omega (arith, one)

  -- so are those of two echelons side by side
  rates_next : (j : ℕ) → lacking_rate serial * reach + unit_of serial (suc j) * reach + unit_of serial j * reach + 1 ≤ serial_cost_bound serial
  unfolding serial_cost_bound lacking_rate
  rates_next j =
      let k = serial.stockout + sum serial.holding in
      let one = mul-le (k + (unit_of serial (suc j) + unit_of serial j)) reach (k + sum serial.unit) reach (omega (arith, neighbours_most serial.unit j)) (omega arith) in
      omega (arith, one)

  -- bounds grow by the period at the first echelon
  pub most_first : (n : ℕ) → lacking_rate serial * reach + unit_of serial 0 * reach + most n 0 ≤ most (suc n) 0
  most_first n =
      let c = serial_cost_bound serial in
      omega (arith, rates_first, mul-le (1 + factor n 0) c (factor (suc n) 0) c (factor_first n) (omega arith))

  -- and at each other one
  pub most_next : (n j : ℕ) → lacking_rate serial * reach + unit_of serial (suc j) * reach + most n (suc j) + (unit_of serial j * reach + 2 * most n j) ≤ most (suc n) (suc j)
  most_next n j =
      let c = serial_cost_bound serial in
      let grown = mul-le (1 + factor n (suc j) + 2 * factor n j) c (factor (suc n) (suc j)) c (factor_next n j) (omega arith) in
      let spread : (1 + factor n (suc j) + 2 * factor n j) * c ≡ c + most n (suc j) + 2 * most n j = parts (factor n (suc j)) (factor n j) c in
      omega (arith, rates_next j, grown, spread)
    where
      parts : (a b c : ℕ) → (1 + a + 2 * b) * c ≡ c + a * c + 2 * (b * c)
      parts a b c = omega arith

  -- an order's own part is within the bound of the period
  pub order_most : (n j : ℕ) → unit_of serial j * reach + most n j ≤ most (suc n) j
  order_most n zero = omega (arith, most_first n)
  order_most n (suc j) = omega (arith, most_next n j)

  module _ (S : ℕ → ℕ → ℤ) (levels : AreOnGrid serial S) where
    -- a level is a position of the grid
    level_at : (n t j : ℕ) → 1 ≤ t → t + n ≡ serial.periods → j < length serial.holding → IsAt t (S t j)
    level_at n t j pt e lt = record { from_low = (levels n t j pt e lt).from_low; to_cap = (levels n t j pt e lt).to_cap }

    -- one period more
    value_most : (n t i : ℕ) (x : ℤ) → 1 ≤ t → t + n ≡ serial.periods → i < length serial.holding → IsAt t x → ((j : ℕ) (z : ℤ) → j < length serial.holding → IsAt (suc t) z → unsigned_abs (values serial S n (suc t) j z) ≤ scale serial n * most n j) → unsigned_abs (values serial S (suc n) t i x) ≤ scale serial (suc n) * most (suc n) i
    value_most n t zero x pt e lt at small =
        omega (arith, value_first (values serial S n (suc t)) n t pt e (most n) small (S t) (λ j k. level_at n t j pt e k) x lt at, mul-le-mul_left (scale serial (suc n)) (most_first n))
    value_most n t (suc j) x pt e lt at small =
        omega (arith, value_next (values serial S n (suc t)) n t pt e (most n) small (S t) (λ i k. level_at n t i pt e k) j x lt at, mul-le-mul_left (scale serial (suc n)) (most_next n j))

    -- the values of all periods
    values_most : (n t i : ℕ) (x : ℤ) → 1 ≤ t → t + n ≡ suc serial.periods → i < length serial.holding → IsAt t x → unsigned_abs (values serial S n t i x) ≤ scale serial n * most n i
    values_most zero t i x pt e lt at = omega arith
    values_most (suc n) t i x pt e lt at =
        value_most n t i x pt (omega (arith, e)) lt at (λ j z k on. values_most n (suc t) j z (omega arith) (omega (arith, e)) k on)

    -- and the costs of orders
    costs_most : (n t i : ℕ) (y : ℤ) → 1 ≤ t → t + n ≡ serial.periods → i < length serial.holding → IsAt t y → unsigned_abs (order_costs serial S n t i y) ≤ scale serial (suc n) * most (suc n) i
    costs_most n t i y pt e lt at =
        let small = λ (j : ℕ) (x : ℤ) (lt : j < length serial.holding) (at : IsAt (suc t) x). values_most n (suc t) j x (omega arith) (omega (arith, e)) lt at in
        let s = scale serial (suc n) in
        let h = cost_size (values serial S n (suc t)) n t pt e (most n) small i y lt at in
        let spread : s * (unit_of serial i * reach) + s * most n i ≡ s * (unit_of serial i * reach + most n i) = parts s (unit_of serial i * reach) (most n i) in
        omega (arith, h, spread, mul-le-mul_left s (order_most n i))
      where
        parts : (s a b : ℕ) → s * a + s * b ≡ s * (a + b)
        parts s a b = omega arith

    -- the values of all periods
    pub values_size : (n t i : ℕ) (x : ℤ) → 1 ≤ t → t + n ≡ suc serial.periods → i < length serial.holding → serial_low serial t ≤ℤ x → x ≤ℤ serial.cap → unsigned_abs (values serial S n t i x) ≤ scale serial n * size_bound serial n i
    unfolding size_bound
    values_size n t i x pt e lt from to = values_most n t i x pt e lt (record { from_low = from; to_cap = to })

    -- the costs of all orders
    pub costs_size : (n t i : ℕ) (y : ℤ) → 1 ≤ t → t + n ≡ serial.periods → i < length serial.holding → serial_low serial t ≤ℤ y → y ≤ℤ serial.cap → unsigned_abs (order_costs serial S n t i y) ≤ scale serial (suc n) * size_bound serial (suc n) i
    unfolding size_bound
    costs_size n t i y pt e lt from to = costs_most n t i y pt e lt (record { from_low = from; to_cap = to })

  -- ---- against the width number
  pub bound_width : (n i : ℕ) → n ≤ serial.periods → i < length serial.holding → 2 * (scale serial n * size_bound serial n i) ≤ serial_width serial
  unfolding size_bound scale serial_width
  bound_width n i le lt =
      let T = serial.periods in
      let b = serial.discount_den in
      let c = serial_cost_bound serial in
      let some : 1 ≤ b * w = mul-le 1 1 b w (omega (arith, readable.discount.least, readable.discount.proper)) (common_total_some serial.laws T readable.periods.least readable.laws) in
      let some_period : 1 ≤ 2 * T = omega (arith, readable.periods.least) in
      let scales = pow-le-pow_right {n = b * w} some le in
      let shorter = pow-le-pow_left {n = 2 * n} {m = 2 * T} (omega (arith, le)) (suc i) in
      let fewer = pow-le-pow_right {n = 2 * T} some_period {i = suc i} {j = length serial.holding} lt in
      let twice : 2 * factor n i ≡ (2 * n) ^ suc i = doubled n i in
      let parts = mul-le (2 * factor n i) c ((2 * T) ^ length serial.holding) c (omega (arith, twice, shorter, fewer)) (omega arith) in
      let whole = mul-le (2 * factor n i * c) ((b * w) ^ n) ((2 * T) ^ length serial.holding * c) ((b * w) ^ T) parts scales in
      let last : (2 * T) ^ length serial.holding * c * (b * w) ^ T ≡ (2 * T) ^ length serial.holding * c * w ^ T * b ^ T = ap (λ k. (2 * T) ^ length serial.holding * c * k) (mul-pow b w T ∙ mul_comm (b ^ T) (w ^ T)) ∙ sym (mul_assoc ((2 * T) ^ length serial.holding * c) (w ^ T) (b ^ T)) in
      let first : 2 * ((b * w) ^ n * (factor n i * c)) ≡ 2 * factor n i * c * (b * w) ^ n = turned ((b * w) ^ n) (factor n i) c in
      omega (arith, whole, last, first)
    where
      doubled : (n i : ℕ) → 2 * (2 ^ i * n ^ suc i) ≡ (2 * n) ^ suc i
      doubled n i = sym (mul_assoc 2 (2 ^ i) (n ^ suc i)) ∙ ap (λ k. k * n ^ suc i) (Z.pow_first 2 i) ∙ sym (mul-pow 2 n (suc i))

      turned : (s f c : ℕ) → 2 * (s * (f * c)) ≡ 2 * f * c * s
      turned s f c = ap (λ k. 2 * k) (mul_comm s (f * c)) ∙ sym (mul_assoc 2 (f * c) s) ∙ ap (λ k. k * s) (sym (mul_assoc 2 f c))
