-- A valid instance leaves room for all numbers of a period.
use Rattle.std.proofs.Common.{◌≡◌, ℕ, suc, ◌+◌, ◌*◌, ◌^◌, ◌<◌, ◌≤◌, ℤ, pos, ◌+ℤ◌, length, sum, sym, ◌∙◌, ap, arith, subst, mul-le-mul_left, mul_assoc}
use Rattle.std.specs.Prelude.{unsigned_abs}
use Rattle.std.proofs.lemmas.Int.{unsigned_abs-mul}
use Rattle.std.proofs.lemmas.Nat.{mul-le}
use Rattle.demand_law.specs.Integers as Z
use Rattle.demand_law.specs.Law.{IsLaw}
use Rattle.decision_model.specs.DemandLaws.{common_total}
use Rattle.decision_model.specs.LawFacts.{common_total_in_range, greatest_in_range}
use Rattle.decision_model.specs.Serial.{IsValidSerial, serial_low, serial_positions, serial_cost_bound}
use Rattle.decision_model.specs.SerialProblem.{law_of_period, unit_of, lacking_rate}
use Rattle.decision_model.specs.declared.serial.Serial.{Serial}
use Rattle.value_cert.specs.SerialValues.{scale, order_cost, row_width}
use Rattle.serial_lemmas.specs.BoundedValues.{AreBounded, bounded_costs, bound_fits}
use Rattle.serial_lemmas.specs.Levels.{size_bound}
use Rattle.serial_lemmas.specs.Sizes.{entry_most, factor, factor_first}
use Rattle.serial_lemmas.specs.ValueSizes.{IsAt, reach, near, own_size, rates_first, order_most, bound_width}
use Rattle.serial_recursion.specs.Rows.{IsFrame, HasRoom, HasValueRoom, rates_for, stock_sum}
use Rattle.serial_recursion.specs.declared.frame.Frame.{Frame}
use Rattle.serial_recursion.proofs.Frames.{readable, sound, place_on, low_cap, width_most, width_next, own_fits, own_next}
use Rattle.serial_recursion.proofs.Period.{t, n, t_some, in_time, scale_is, own_scale_is, position_is, total_is, own_is}

module _ (serial : Serial) (valid : IsValidSerial serial) where
  abbrev far : ℕ
  far = reach serial (readable serial valid)

  -- the scale times the cost bound fits
  cost_fits : (n : ℕ) → suc n ≤ serial.periods → scale serial (suc n) * serial_cost_bound serial ≤ 2 ^ 119
  unfolding size_bound
  cost_fits n le =
      let c = serial_cost_bound serial in
      let read = readable serial valid in
      let whole = bound_width serial read (suc n) 0 le read.some_echelon in
      let some : c ≤ factor (suc n) 0 * c = omega (arith, mul-le 1 c (factor (suc n) 0) c (omega (arith, factor_first n)) (omega arith)) in
      omega (arith, whole, mul-le-mul_left (scale serial (suc n)) some, valid.width)

  pub far_small : far ≤ 12000
  far_small = omega (arith, valid.regular.grid.positions, greatest_in_range serial.laws serial.periods (readable serial valid).laws)

  unit_most : (i : ℕ) → unit_of serial i * far ≤ serial_cost_bound serial
  unfolding serial_cost_bound
  unit_most i = omega (arith, mul-le (unit_of serial i) far (serial.stockout + sum serial.holding + sum serial.unit) far (omega (arith, entry_most serial.unit i)) (omega arith))

  lacking_most : lacking_rate serial * far ≤ serial_cost_bound serial
  lacking_most = omega (arith, rates_first serial (readable serial valid))

  lines_fit : (n i k : ℕ) → suc n ≤ serial.periods → k ≤ far → scale serial (suc n) * unit_of serial i * k ≤ 2 ^ 119
  lines_fit n i k le small =
      let s = scale serial (suc n) in
      let one = mul-le (unit_of serial i) k (unit_of serial i) far (omega arith) small in
      let two : unit_of serial i * k ≤ serial_cost_bound serial = omega (arith, one, unit_most i) in
      omega (arith, mul_assoc s (unit_of serial i) k, mul-le-mul_left s two, cost_fits n le)

  far_some : 1 ≤ far
  far_some = omega (arith, width_most serial valid (serial.periods + 1) (omega arith), Rattle.serial_recursion.proofs.Frames.width_some serial valid (serial.periods + 1))

  module _ (p : ℕ) (some : 1 ≤ p) (within : p ≤ serial.periods) (frame : Frame) (is : IsFrame serial p frame) where
    abbrev tt' : ℕ
    tt' = t serial valid p some within frame is

    abbrev nn : ℕ
    nn = n serial valid p some within frame is

    abbrev in_t : tt' + nn ≡ serial.periods
    in_t = in_time serial valid p some within frame is

    at_place : (k : ℕ) → k < row_width serial tt' → IsAt serial (readable serial valid) tt' (serial_low serial tt' +ℤ pos k)
    at_place k lt = record { from_low = (place_on serial valid tt' k lt).0; to_cap = (place_on serial valid tt' k lt).1 }

    near_place : (k : ℕ) → k < row_width serial tt' → unsigned_abs (frame.low +ℤ pos k) ≤ far
    near_place k lt = subst (λ (z : ℤ). unsigned_abs z ≤ far) (sym (position_is serial valid p some within frame is k)) (near serial (readable serial valid) tt' (serial_low serial tt' +ℤ pos k) (t_some serial valid p some within frame is) (omega (arith, in_t)) (at_place k lt))

    pub low_near : unsigned_abs frame.low ≤ far
    low_near =
        subst (λ (z : ℤ). unsigned_abs z ≤ far) (sym is.is_low)
        (near serial (readable serial valid) tt' (serial_low serial tt') (t_some serial valid p some within frame is) (omega (arith, in_t)) (record { from_low = Rattle.std.specs.Int.Signed.≤ℤ_refl (serial_low serial tt'); to_cap = low_cap serial valid tt' }))

    pub count_most : frame.count ≤ serial_positions serial
    count_most = omega (arith, is.is_count, width_most serial valid tt' (omega (arith, in_t)))

    -- the next period's grid has no more places than its row
    pub rows_most : frame.count + frame.greatest ≤ serial_positions serial
    rows_most = omega (arith, is.is_count, is.is_greatest, width_next serial valid tt' (t_some serial valid p some within frame is), width_most serial valid (suc tt') (omega (arith, in_t)))

    law_total : sum (law_of_period serial tt') ≤ 1000000000
    law_total = omega (arith, (sound serial valid).same_sum tt', common_total_in_range serial.laws serial.periods (readable serial valid).laws)

    -- a value of the next period, by the weights of this one and the discount
    next_fits : (i v : ℕ) → i < length serial.holding → v ≤ scale serial nn * size_bound serial nn i → serial.discount_num * (common_total serial.laws * v) ≤ 2 ^ 119
    unfolding scale size_bound
    next_fits i v lt h =
        let read = readable serial valid in
        let b = serial.discount_den in
        let w = common_total serial.laws in
        let s = (b * w) ^ nn in
        let k = factor nn i * serial_cost_bound serial in
        let one = mul-le serial.discount_num (w * v) b (w * (s * k)) read.discount.proper (mul-le-mul_left w h) in
        let joined : b * (w * (s * k)) ≡ (b * w) ^ suc nn * k = sym (mul_assoc b w (s * k)) ∙ sym (mul_assoc (b * w) s k) ∙ ap (λ x. x * k) (Z.pow_first (b * w) nn) in
        let grown : k ≤ factor (suc nn) i * serial_cost_bound serial = omega (arith, order_most serial read nn i) in
        let more = mul-le-mul_left ((b * w) ^ suc nn) grown in
        omega (arith, one, joined, more, bound_fits serial read valid.width (suc nn) i (omega (arith, in_t, t_some serial valid p some within frame is)) lt)

    rates_same : (i : ℕ) → frame.scale * unit_of serial i ≡ scale serial (suc nn) * unit_of serial i
    rates_same i = ap (λ s. s * unit_of serial i) (scale_is serial valid p some within frame is)

    enough : suc nn ≤ serial.periods
    enough = omega (arith, in_t, t_some serial valid p some within frame is)

    rate_fits : (i : ℕ) → frame.scale * unit_of serial i ≤ 2 ^ 120
    rate_fits i = omega (arith, rates_same i, lines_fit nn i 1 enough far_some)

    place_lines : (i k : ℕ) → k < frame.count → frame.scale * unit_of serial i * unsigned_abs (frame.low +ℤ pos k) ≤ 2 ^ 120
    place_lines i k lt = omega (arith, ap (λ r. r * unsigned_abs (frame.low +ℤ pos k)) (rates_same i), lines_fit nn i (unsigned_abs (frame.low +ℤ pos k)) enough (near_place k (omega (arith, lt, is.is_count))))

    -- ---- with values of the next period that are within their bounds
    pub room_costs : (i : ℕ) (row : ℕ → ℤ) → i < length serial.holding → ((k : ℕ) → k < row_width serial (suc tt') → unsigned_abs (row k) ≤ scale serial nn * size_bound serial nn i) → HasRoom frame (law_of_period serial tt') (unit_of serial i) row
    room_costs i row lt sizes = record {
      low_near = omega (arith, low_near, far_small);
      count_few = omega (arith, count_most, valid.regular.grid.positions);
      greatest_few = omega (arith, rows_most, valid.regular.grid.positions);
      some_num = omega (arith, is.is_num, (readable serial valid).discount.least);
      demands = omega (arith, (sound serial valid).within tt', is.is_greatest);
      total = omega (arith, law_total);
      rate = rate_fits i;
      lines = place_lines i;
      values = value;
    }
      where
        value : (k : ℕ) → k < frame.count + frame.greatest → frame.num * (sum (law_of_period serial tt') * unsigned_abs (row k)) ≤ 2 ^ 120
        value k small =
            let inside : k < row_width serial (suc tt') = omega (arith, small, is.is_count, is.is_greatest, width_next serial valid tt' (t_some serial valid p some within frame is)) in
            let v = unsigned_abs (row k) in
            let fits = next_fits i v lt (sizes k inside) in
            omega (arith, fits, ap (λ a. a * (sum (law_of_period serial tt') * v)) is.is_num, ap (λ w. serial.discount_num * (w * v)) ((sound serial valid).same_sum tt'))

    -- the costs of orders are small
    pub costs_small : (F : ℕ → ℤ → ℤ) (i k : ℕ) → AreBounded serial nn (suc tt') F → i < length serial.holding → k < row_width serial tt' → unsigned_abs (order_cost serial F nn tt' i (serial_low serial tt' +ℤ pos k)) ≤ 2 ^ 119
    costs_small F i k bounded lt small =
        let on = place_on serial valid tt' k small in
        let size = bounded_costs serial (readable serial valid) F nn tt' (t_some serial valid p some within frame is) in_t bounded i (serial_low serial tt' +ℤ pos k) lt on.0 on.1 in
        omega (arith, size, bound_fits serial (readable serial valid) valid.width (suc nn) i enough lt)

    -- values have room
    pub room_values : (i : ℕ) → IsLaw (law_of_period serial tt') → (rates_for serial i).holding ≤ 2 ^ 30 → (rates_for serial i).lacking ≤ 2 ^ 30 → HasValueRoom frame (rates_for serial i) (law_of_period serial tt')
    room_values i law holding lacking = record {
      low_near = omega (arith, low_near, far_small);
      count_few = omega (arith, count_most, valid.regular.grid.positions);
      demands_some = law.some;
      demands_few = omega (arith, (sound serial valid).within tt', far_small);
      total = omega (arith, total_is serial valid p some within frame is, law_total);
      is_total = total_is serial valid p some within frame is;
      holding = holding;
      lacking = lacking;
      rate = rate_fits i;
      own_scale = omega (arith, own_small);
      lines = place_lines i;
      owns = owns;
    }
      where
        own_small : frame.own_scale ≤ 2 ^ 120
        own_small = omega (arith, own_scale_is serial valid p some within frame is, own_next serial valid nn, own_fits serial valid nn enough)

        owns : (k : ℕ) → k < frame.count → frame.own_scale * unsigned_abs (stock_sum frame (rates_for serial i) (law_of_period serial tt') k) ≤ 2 ^ 120
        owns k small =
            let inside : k < row_width serial tt' = omega (arith, small, is.is_count) in
            let size = own_size serial (readable serial valid) nn tt' i (serial_low serial tt' +ℤ pos k) (t_some serial valid p some within frame is) (omega (arith, in_t)) (at_place k inside) in
            let same = own_is serial valid p some within frame is i k in
            let product = unsigned_abs-mul (pos frame.own_scale) (stock_sum frame (rates_for serial i) (law_of_period serial tt') k) in
            let whole = mul-le-mul_left (scale serial (suc nn)) lacking_most in
            omega (arith, size, ap unsigned_abs same, product, whole, cost_fits nn enough)
