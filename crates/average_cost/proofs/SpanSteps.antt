-- The greatest relative value, from the last place down.
use Rattle.std.proofs.Common.{◌≡◌, ℕ, zero, suc, ◌+◌, ◌-◌, ◌*◌, ◌^◌, max, ◌<◌, ◌≤◌, List, [], ◌∷◌, length, drop, sum, slice_index, slice_index_or, refl, sym, ◌∙◌, ap, arith, pow-suc, mul-le-mul_left}
use Rattle.std.proofs.lemmas.List.{get_or-map, length-map}
use Rattle.std.proofs.Math.Nat.{one-le-pow}
use Rattle.std.proofs.lemmas.Nat.{mul-le, pow-add}
use Rattle.decision_model.specs.declared.average.Average.{Average}
use Rattle.decision_model.specs.Average.{IsValidAverage, average_positions}
use Rattle.value_cert.specs.AverageRules.{IsLeastAverage, cost_in, lower_in, upper_in, greatest_value, span_num, span_den}
use Rattle.value_cert.specs.AverageValues.{moving, at_place}
use Rattle.value_cert.specs.declared.average.AverageCell.{AverageCell}
use Rattle.value_cert.specs.declared.average.AverageCert.{AverageCert}
use Rattle.std.specs.List.{range_with_len}
use Rattle.std.proofs.lemmas.List.FromFn.{length-range_with_len}
use Rattle.average_lemmas.specs.Certified.{moving_some}
use Rattle.average_lemmas.specs.KeptSizes.{half_small, lower_small, upper_small, span_small}
use Rattle.average_lemmas.specs.SpanFacts.{greatest_start}
use Rattle.average_lemmas.specs.Tables.{sum_first}

-- a number more at the start
greatest_max : (v : ℕ) (entries : List ℕ) (most z : ℕ) → greatest_value v entries (max most z) ≡ max (greatest_value v entries most) z
unfolding greatest_value
greatest_max v [] most z = refl
greatest_max v (entry ∷ entries) most z =
    ap (greatest_value v entries) (swap most z (entry * v ^ length entries)) ∙ greatest_max v entries (max most (entry * v ^ length entries)) z
  where
    swap : (a b c : ℕ) → max (max a b) c ≡ max (max a c) b
    swap a b c = omega arith

-- with one more entry in front
greatest_front : (v entry : ℕ) (entries : List ℕ) (most : ℕ) → greatest_value v (entry ∷ entries) most ≡ max (greatest_value v entries most) (entry * v ^ length entries)
unfolding greatest_value
greatest_front v entry entries most = greatest_max v entries most (entry * v ^ length entries)

drop_here : (xs : List ℕ) (j r : ℕ) → j + suc r ≡ length xs → (drop j xs ≡ slice_index xs j ∷ drop (suc j) xs) × (length (drop (suc j) xs) ≡ r)
drop_here [] j r e = absurd (omega (arith, e))
drop_here (x ∷ xs) zero r e = (refl, omega (arith, e))
drop_here (x ∷ xs) (suc j) r e = drop_here xs j r (omega (arith, e))

pub drop_all : (xs : List ℕ) (k : ℕ) → length xs ≡ k → drop k xs ≡ []
drop_all [] zero e = refl
drop_all [] (suc k) e = refl
drop_all (x ∷ xs) zero e = absurd (omega (arith, e))
drop_all (x ∷ xs) (suc k) e = drop_all xs k (omega (arith, e))

-- both tables with one more place in front
pub span_step : (v : ℕ) (upper lower : List ℕ) (start j r : ℕ) → j + suc r ≡ length lower → length upper ≡ length lower
    → greatest_value v (drop j upper) (greatest_value v (drop j lower) start) ≡ max (max (greatest_value v (drop (suc j) upper) (greatest_value v (drop (suc j) lower) start)) (slice_index lower j * v ^ r)) (slice_index upper j * v ^ r)
span_step v upper lower start j r e same =
    let up = drop_here upper j r (omega (arith, e, same)) in
    let low = drop_here lower j r e in
    let rest = greatest_value v (drop (suc j) lower) start in
    ap (λ (xs : List ℕ). greatest_value v xs (greatest_value v (drop j lower) start)) up.0
    ∙ greatest_front v (slice_index upper j) (drop (suc j) upper) (greatest_value v (drop j lower) start)
    ∙ ap (λ z. max (greatest_value v (drop (suc j) upper) z) (slice_index upper j * v ^ length (drop (suc j) upper))) (ap (λ (xs : List ℕ). greatest_value v xs start) low.0 ∙ greatest_front v (slice_index lower j) (drop (suc j) lower) start)
    ∙ ap (λ z. max z (slice_index upper j * v ^ length (drop (suc j) upper))) (greatest_max v (drop (suc j) upper) rest (slice_index lower j * v ^ length (drop (suc j) lower)))
    ∙ (λ i. max (max (greatest_value v (drop (suc j) upper) rest) (slice_index lower j * v ^ low.1 i)) (slice_index upper j * v ^ up.1 i))

module _ (item : Average) (valid : IsValidAverage item) (c : AverageCert) (is : IsLeastAverage item c) where
  abbrev v : ℕ
  v = sum (moving item.law)

  -- a cell for each place
  pub many : length c.cells ≡ average_positions item
  many = sym (length-map c.cells (λ (cell : AverageCell). cell.at)) ∙ ap length is.positions ∙ length-map (range_with_len 0 (average_positions item)) (at_place item) ∙ length-range_with_len 0 (average_positions item)

  pub many_lower : length (lower_in c) ≡ length c.cells
  many_lower = length-map c.cells (λ (cell : AverageCell). cell.lower)

  pub many_upper : length (upper_in c) ≡ length c.cells
  many_upper = length-map c.cells (λ (cell : AverageCell). cell.upper)

  -- the entries of a cell
  pub lower_at : (j : ℕ) (d : AverageCell) → j < length c.cells → (slice_index_or c.cells j d).lower ≡ slice_index (lower_in c) j
  lower_at j d lt = sym (get_or-map (λ (cell : AverageCell). cell.lower) c.cells j d 0 lt)

  pub upper_at : (j : ℕ) (d : AverageCell) → j < length c.cells → (slice_index_or c.cells j d).upper ≡ slice_index (upper_in c) j
  upper_at j d lt = sym (get_or-map (λ (cell : AverageCell). cell.upper) c.cells j d 0 lt)

  -- their relative values are small
  pub lower_fits : (j r : ℕ) (d : AverageCell) → j + suc r ≡ length c.cells → (slice_index_or c.cells j d).lower * v ^ r ≤ 2 ^ 119
  lower_fits j r d e = omega (arith, half_small item valid, lower_small item valid (cost_in c) c.low c.high (slice_index (lower_in c)) (slice_index (upper_in c)) is.den_small is.num_small is.equations j r (omega (arith, e, many)), ap (λ z. z * v ^ r) (lower_at j d (omega (arith, e))))

  pub upper_fits : (j r : ℕ) (d : AverageCell) → j + suc r ≡ length c.cells → (slice_index_or c.cells j d).upper * v ^ r ≤ 2 ^ 119
  upper_fits j r d e = omega (arith, half_small item valid, upper_small item valid (cost_in c) c.low c.high (slice_index (lower_in c)) (slice_index (upper_in c)) is.den_small is.num_small is.equations j r (omega (arith, e, many)), ap (λ z. z * v ^ r) (upper_at j d (omega (arith, e))))

  -- so are the span's numbers
  pub small : (span_num item c ≤ 2 ^ 119) × (span_den item c ≤ 2 ^ 119)
  small = span_small item valid c is.den_small is.num_small many is.equations

  weight_some : (k : ℕ) → 1 ≤ sum item.law ^ k
  weight_some k = one-le-pow k (sum item.law) (omega (arith, moving_some item.law valid.regular.has_demand, sum_first item.law))

  pub power_some : (k : ℕ) → 1 ≤ v ^ k
  power_some k = one-le-pow k v (omega (arith, moving_some item.law valid.regular.has_demand))

  -- and the parts of its denominator
  pub front_fits : c.den * sum item.law ^ item.lead ≤ 2 ^ 119
  front_fits = omega (arith, small.1, mul-le-mul_left (c.den * sum item.law ^ item.lead) (power_some (average_positions item)))

  pub places_fit : v ^ average_positions item ≤ 2 ^ 119
  places_fit =
      let front = mul-le 1 1 c.den (sum item.law ^ item.lead) is.equations.g_some (weight_some item.lead) in
      omega (arith, small.1, mul-le-mul_left (v ^ average_positions item) front)

  pub den_some : 1 ≤ span_den item c
  den_some = mul-le 1 1 (c.den * sum item.law ^ item.lead) (v ^ average_positions item) (mul-le 1 1 c.den (sum item.law ^ item.lead) is.equations.g_some (weight_some item.lead)) (power_some (average_positions item))

  pub moving_is : sum item.law - slice_index item.law 0 ≡ v
  moving_is = omega (arith, sum_first item.law)

  -- the next power
  pub power_next : (k : ℕ) → k < length c.cells → v ^ k * v ≤ 2 ^ 119
  power_next k lt =
      let r = length c.cells - suc k in
      let e : suc k + r ≡ average_positions item = omega (arith, lt, many) in
      let whole : v ^ average_positions item ≡ v ^ suc k * v ^ r = ap (λ m. v ^ m) (sym e) ∙ pow-add v (suc k) r in
      omega (arith, places_fit, whole, mul-le-mul_left (v ^ suc k) (power_some r), pow-suc v k)

  -- one more place from the top, as it is told
  pub step_told : (start back most power first second : ℕ) (d : AverageCell) (seen : List AverageCell) → seen ≡ c.cells → back < length c.cells
      → most ≡ greatest_value v (drop (length c.cells - back) (upper_in c)) (greatest_value v (drop (length c.cells - back) (lower_in c)) start) → power ≡ v ^ back
      → first ≡ max most ((slice_index_or seen (length seen - 1 - back) d).lower * power) → second ≡ max first ((slice_index_or seen (length seen - 1 - back) d).upper * power)
      → second ≡ greatest_value v (drop (length c.cells - (back + 1)) (upper_in c)) (greatest_value v (drop (length c.cells - (back + 1)) (lower_in c)) start)
  step_told start back most power first second d seen e lt is is_power is_first is_second =
      let j = length c.cells - (back + 1) in
      let place : length seen - 1 - back ≡ j = omega (arith, ap length e) in
      let next : suc j ≡ length c.cells - back = omega (arith, lt) in
      let inside : j < length c.cells = omega (arith, lt) in
      let low : (slice_index_or seen (length seen - 1 - back) d).lower * power ≡ slice_index (lower_in c) j * v ^ back = (λ i. (slice_index_or (e i) (place i) d).lower * is_power i) ∙ ap (λ z. z * v ^ back) (lower_at j d inside) in
      let up : (slice_index_or seen (length seen - 1 - back) d).upper * power ≡ slice_index (upper_in c) j * v ^ back = (λ i. (slice_index_or (e i) (place i) d).upper * is_power i) ∙ ap (λ z. z * v ^ back) (upper_at j d inside) in
      is_second ∙ (λ i. max ((is_first ∙ (λ k. max ((is ∙ ap (λ m. greatest_value v (drop m (upper_in c)) (greatest_value v (drop m (lower_in c)) start)) (sym next)) k) (low k))) i) (up i))
      ∙ sym (span_step v (upper_in c) (lower_in c) start j back (omega (arith, lt, many_lower)) (omega (arith, many_lower, many_upper)))

  -- before the last place and behind the first
  pub start_told : (start : ℕ) → start ≡ greatest_value v (drop (length c.cells - 0) (upper_in c)) (greatest_value v (drop (length c.cells - 0) (lower_in c)) start)
  unfolding greatest_value
  start_told start =
      let all : length c.cells - 0 ≡ length c.cells = omega arith in
      sym (ap (λ m. greatest_value v (drop m (upper_in c)) (greatest_value v (drop m (lower_in c)) start)) all ∙ (λ i. greatest_value v (drop_all (upper_in c) (length c.cells) many_upper i) (greatest_value v (drop_all (lower_in c) (length c.cells) many_lower i) start)))

  pub end_told : (start back most : ℕ) → back ≡ length c.cells → most ≡ greatest_value v (drop (length c.cells - back) (upper_in c)) (greatest_value v (drop (length c.cells - back) (lower_in c)) start) → most ≡ greatest_value v (upper_in c) (greatest_value v (lower_in c) start)
  end_told start back most e is = let none : length c.cells - back ≡ 0 = omega (arith, e) in is ∙ ap (λ m. greatest_value v (drop m (upper_in c)) (greatest_value v (drop m (lower_in c)) start)) none

  -- the entries with the power of their place
  pub lower_product : (back power : ℕ) (d : AverageCell) (seen : List AverageCell) → seen ≡ c.cells → back < length c.cells → power ≡ v ^ back → (slice_index_or seen (length seen - 1 - back) d).lower * power ≤ 2 ^ 119
  lower_product back power d seen e lt is = rw (e, is) (lower_fits (length c.cells - 1 - back) back d (omega (arith, lt)))

  pub upper_product : (back power : ℕ) (d : AverageCell) (seen : List AverageCell) → seen ≡ c.cells → back < length c.cells → power ≡ v ^ back → (slice_index_or seen (length seen - 1 - back) d).upper * power ≤ 2 ^ 119
  upper_product back power d seen e lt is = rw (e, is) (upper_fits (length c.cells - 1 - back) back d (omega (arith, lt)))

  -- the setup cost over the denominator of the last place
  pub setup_told : item.setup * span_den item c ≡ item.setup * c.den * sum item.law ^ item.lead * v ^ average_positions item
  setup_told = omega arith

  pub setup_fits : item.setup * span_den item c ≤ 2 ^ 119
  setup_fits =
      let start = item.setup * c.den * sum item.law ^ item.lead * v ^ average_positions item in
      omega (arith, small.0, setup_told, greatest_start v (lower_in c) start, greatest_start v (upper_in c) (greatest_value v (lower_in c) start))

  -- the denominator and the numerator as they are told
  pub den_told : (total weights whole first count places : ℕ) → total ≡ sum item.law → weights ≡ total ^ item.lead → whole ≡ sum item.law → first ≡ slice_index item.law 0 → count ≡ average_positions item → places ≡ (whole - first) ^ count → c.den * weights * places ≡ span_den item c
  den_told total weights whole first count places a b d e f g =
      (λ i. c.den * (b ∙ ap (λ w. w ^ item.lead) a) i * (g ∙ (λ k. ((λ m. d m - e m) ∙ moving_is) k ^ f k)) i)

  pub num_told : (result start : ℕ) → result ≡ greatest_value v (upper_in c) (greatest_value v (lower_in c) start) → start ≡ item.setup * span_den item c → result ≡ span_num item c
  num_told result start is e = is ∙ ap (λ z. greatest_value v (upper_in c) (greatest_value v (lower_in c) z)) (e ∙ setup_told)
