-- The numbers of a certificate of an average cost that breaks no rule are small, so it has a text.
use Rattle.std.proofs.Common.{◌≡◌, ℕ, zero, suc, ◌+◌, ◌-◌, ◌*◌, ◌^◌, ◌<◌, ◌≤◌, ℤ, pos, ◌+ℤ◌, ◌-ℤ◌, ◌≤ℤ◌, ◌<ℤ◌, true, ◌&&◌, List, [], ◌∷◌, length, map, slice_index, slice_index_or, sum, refl, sym, ◌∙◌, ap, arith, mul-le-mul_left, ◌⊎◌, inl, inr}
use Rattle.std.specs.Prelude.{nat_le}
use Rattle.std.specs.List.{list_all}
use Rattle.std.proofs.lemmas.Bool.{le-leb}
use Rattle.std.proofs.lemmas.Int.{ints}
use Rattle.std.proofs.lemmas.List.{get_or-map, length-map}
use Rattle.std.proofs.lemmas.List.Folds.{list_all-append}
use Rattle.std.proofs.lemmas.Nat.{mul-le}
use Rattle.std.proofs.Math.Nat.{one-le-pow}
use Rattle.decision_model.specs.declared.average.Average.{Average}
use Rattle.decision_model.specs.Average.{IsValidAverage, average_positions, average_cost_bound}
use Rattle.decision_model.specs.WidthFacts.{average_positions_some}
use Rattle.value_cert.specs.Average.{point_line}
use Rattle.value_cert.specs.AverageLeast.{MeetsEquations}
use Rattle.value_cert.specs.AverageRules.{cost_in, lower_in, upper_in, span_num, span_den}
use Rattle.value_cert.specs.AverageValues.{Ratio, moving, at_place, limit, gain, loss, greatest_den, greatest_num}
use Rattle.value_cert.specs.Grammar.{has_numbers}
use Rattle.value_cert.specs.Numbers.{is_natural, is_whole}
use Rattle.value_cert.specs.NumberFacts.{whole_from_small}
use Rattle.value_cert.specs.Texts.{HasText}
use Rattle.value_cert.specs.declared.average.AverageCell.{AverageCell}
use Rattle.value_cert.specs.declared.average.AverageCert.{AverageCert}
use Rattle.value_cert.specs.declared.cert.Cert.TheVariants as cert
use Rattle.value_cert.specs.declared.line.CertLine.TheVariants as line
use Rattle.average_lemmas.specs.Certified.{moving_some}
use Rattle.average_lemmas.specs.CostLines.{half_width}
use Rattle.average_lemmas.specs.Orders.{by_order}
use Rattle.average_lemmas.specs.RulesKept.{AreRulesKept, equations_met, positions_count}
use Rattle.average_lemmas.specs.Sizes.{half_is, relative_small, setup_small, denominator_small, bound_some}
use Rattle.average_lemmas.specs.SpanFacts.{greatest_most}

-- a number of ℕ that is small may stand where a natural number may
natural : (n : ℕ) → n ≤ 2 ^ 120 → is_natural (pos n) ≡ true
natural n small =
    let low : nat_le 0 n ≡ true = le-leb 0 n (omega arith) in
    let high : nat_le n (2 ^ 120) ≡ true = le-leb n (2 ^ 120) small in
    rw (low, high) refl

module _ (item : Average) (valid : IsValidAverage item) where
  abbrev n : ℕ
  n = average_positions item

  -- half of the width number
  pub half_small : half_width item n ≤ 2 ^ 119
  half_small =
      let twice = half_is item valid.regular.has_demand n (positions_count item valid.regular.readable) in
      omega (arith, twice, valid.width)

  -- either bound of an upper entry
  upper_by : (g : Ratio) (low high : ℤ) (lower upper : ℕ → ℕ) → MeetsEquations item g low high n lower upper → (k : ℕ) → k < n → (upper k ≤ limit item g k) ⊎ (upper k + loss item g k ≤ gain item g upper k)
  upper_by g low high lower upper is k lt = go (by_order (at_place item k) low)
    where
      go : (at_place item k ≤ℤ low) ⊎ (low <ℤ at_place item k) → (upper k ≤ limit item g k) ⊎ (upper k + loss item g k ≤ gain item g upper k)
      go (inl le) = inl (omega (arith, is.is_upper.order k lt le))
      go (inr above) = inr (omega (arith, is.is_upper.keep k lt above))

  -- the relative values of both tables, over the denominator of the last place
  pub lower_small : (g : Ratio) (low high : ℤ) (lower upper : ℕ → ℕ) → g.den ≤ greatest_den item n → g.num ≤ greatest_num item g.den → MeetsEquations item g low high n lower upper → (k r : ℕ) → k + suc r ≡ n → lower k * sum (moving item.law) ^ r ≤ half_width item n
  lower_small g low high lower upper small bounded is =
      relative_small item valid.regular.has_demand n (positions_count item valid.regular.readable) g small bounded (average_positions_some item valid.regular.readable) lower (λ j lt. inl (is.is_lower.within j lt))

  pub upper_small : (g : Ratio) (low high : ℤ) (lower upper : ℕ → ℕ) → g.den ≤ greatest_den item n → g.num ≤ greatest_num item g.den → MeetsEquations item g low high n lower upper → (k r : ℕ) → k + suc r ≡ n → upper k * sum (moving item.law) ^ r ≤ half_width item n
  upper_small g low high lower upper small bounded is =
      relative_small item valid.regular.has_demand n (positions_count item valid.regular.readable) g small bounded (average_positions_some item valid.regular.readable) upper (upper_by g low high lower upper is)

  -- so an entry is small
  entry_small : (a : ℕ → ℕ) → ((k r : ℕ) → k + suc r ≡ n → a k * sum (moving item.law) ^ r ≤ half_width item n) → (k : ℕ) → k < n → a k ≤ 2 ^ 120
  entry_small a each k lt =
      let r = n - suc k in
      let power = one-le-pow r (sum (moving item.law)) (omega (arith, moving_some item.law valid.regular.has_demand)) in
      omega (arith, half_small, each k r (omega (arith, lt)), mul-le-mul_left (a k) power)

  -- and so are the numbers of the average cost
  pub cost_small : (g : Ratio) → g.den ≤ greatest_den item n → g.num ≤ greatest_num item g.den → (g.num ≤ 2 ^ 119) × (g.den ≤ 2 ^ 119)
  cost_small g small bounded =
      let d = greatest_den item n in
      let c = item.setup + average_cost_bound item in
      let some = bound_some item valid.regular.has_demand n (positions_count item valid.regular.readable) in (
        omega (arith, half_small, bounded, square (g.num) g.den d c small bounded),
        omega (arith, half_small, line g.den d c small (omega (arith, some))),
      )
    where
      line : (den d c : ℕ) → den ≤ d → 1 ≤ c → den ≤ c * (d * d)
      line den d c le some = go den le
        where
          go : (den : ℕ) → den ≤ d → den ≤ c * (d * d)
          go zero le = omega arith
          go (suc m) le = omega (arith, mul-le 1 (suc m * 1) c (d * d) some (mul-le (suc m) 1 d d le (omega (arith, le))))

      square : (num den d c : ℕ) → den ≤ d → num ≤ den * c → num ≤ c * (d * d)
      square num zero d c le h = omega (arith, h)
      square num (suc m) d c le h = omega (arith, h, mul-le (suc m * 1) c (d * d) c (mul-le (suc m) 1 d d le (omega (arith, le))) (omega arith))

  -- ---- a certificate that breaks no rule
  module _ (c : AverageCert) (is : AreRulesKept item c) where
    equations : MeetsEquations item (cost_in c) c.low c.high n (slice_index (lower_in c)) (slice_index (upper_in c))
    equations = equations_met item c is

    lower_fits : (k : ℕ) → k < n → slice_index (lower_in c) k ≤ 2 ^ 120
    lower_fits = entry_small (slice_index (lower_in c)) (lower_small (cost_in c) c.low c.high (slice_index (lower_in c)) (slice_index (upper_in c)) is.den_small is.num_small equations)

    upper_fits : (k : ℕ) → k < n → slice_index (upper_in c) k ≤ 2 ^ 120
    upper_fits = entry_small (slice_index (upper_in c)) (upper_small (cost_in c) c.low c.high (slice_index (lower_in c)) (slice_index (upper_in c)) is.den_small is.num_small equations)

    -- a position of the grid, or one below it
    near : (z : ℤ) → (item.floor -ℤ pos 1) ≤ℤ z → z ≤ℤ item.cap → is_whole z ≡ true
    near z low high = whole_from_small z (omega (arith, ints, low, high, valid.regular.readable.floor.least, valid.regular.readable.cap.most))

    -- the numbers of a cell
    cell_numbers : (k : ℕ) (d : AverageCell) → k < n → has_numbers (point_line (slice_index_or c.cells k d)) ≡ true
    cell_numbers k d lt =
        let holds = is.places k d (omega (arith, lt, is.many)) in
        let lower_is = get_or-map (λ (cell : AverageCell). cell.lower) c.cells k d 0 (omega (arith, lt, is.many)) in
        let upper_is = get_or-map (λ (cell : AverageCell). cell.upper) c.cells k d 0 (omega (arith, lt, is.many)) in
        let at = on_grid (slice_index_or c.cells k d).at k lt holds.position in
        numbers (slice_index_or c.cells k d) at (omega (arith, sym lower_is, lower_fits k lt)) (omega (arith, sym upper_is, upper_fits k lt))
      where
        on_grid : (z : ℤ) (k : ℕ) → k < n → z ≡ at_place item k → is_whole z ≡ true
        on_grid z k lt e = near z (omega (arith, ints, e)) (omega (arith, ints, e, lt, positions_count item valid.regular.readable))

        numbers : (cell : AverageCell) → is_whole cell.at ≡ true → cell.lower ≤ 2 ^ 120 → cell.upper ≤ 2 ^ 120 → has_numbers (point_line cell) ≡ true
        numbers cell at low up = rw (at, natural cell.lower low, natural cell.upper up) refl

    -- the lines of cells
    cells_numbers : (cells : List AverageCell) → ((k : ℕ) (d : AverageCell) → k < length cells → has_numbers (point_line (slice_index_or cells k d)) ≡ true) → list_all has_numbers (map point_line cells) ≡ true
    cells_numbers [] h = refl
    cells_numbers (cell ∷ cells) h =
        let here = h 0 cell (omega arith) in
        let later = cells_numbers cells (λ k d lt. h (suc k) d (omega (arith, lt))) in
        ap (λ b. b && list_all has_numbers (map point_line cells)) here ∙ later

    -- it has a text
    pub kept_text : HasText (cert.Average c)
    kept_text =
        let cost = cost_small (cost_in c) is.den_small is.num_small in
        let num = natural c.num (omega (arith, cost.0)) in
        let den = natural c.den (omega (arith, cost.1)) in
        let low = near c.low (below item.floor c.low is.pair.above) (beneath c.low c.high item.cap is.pair.ordered is.pair.within) in
        let high = near c.high (past item.floor c.low c.high is.pair.above is.pair.ordered) is.pair.within in
        let points = list_all-append has_numbers (map point_line c.cells) (line.End ∷ []) ∙ ap (λ b. b && true) (cells_numbers c.cells (λ k d lt. cell_numbers k d (omega (arith, lt, is.many)))) in
        record { numbers = rw (num, den, low, high, points) refl; complete = omega (arith, is.many, average_positions_some item valid.regular.readable) }
      where
        below : (floor low : ℤ) → floor ≤ℤ (low +ℤ pos 1) → (floor -ℤ pos 1) ≤ℤ low
        below floor low le = omega (arith, ints, le)

        beneath : (low high cap : ℤ) → low <ℤ high → high ≤ℤ cap → low ≤ℤ cap
        beneath low high cap lt le = omega (arith, ints, lt, le)

        past : (floor low high : ℤ) → floor ≤ℤ (low +ℤ pos 1) → low <ℤ high → (floor -ℤ pos 1) ≤ℤ high
        past floor low high le lt = omega (arith, ints, le, lt)

  -- ---- the span's numbers, of a certificate that meets the equations
  pub span_small : (c : AverageCert) → c.den ≤ greatest_den item n → c.num ≤ greatest_num item c.den → length c.cells ≡ n
      → MeetsEquations item (cost_in c) c.low c.high n (slice_index (lower_in c)) (slice_index (upper_in c)) → (span_num item c ≤ 2 ^ 119) × (span_den item c ≤ 2 ^ 119)
  span_small c small bounded many equations =
      let all = positions_count item valid.regular.readable in
      let some = average_positions_some item valid.regular.readable in
      let v = sum (moving item.law) in
      let setup = setup_small item valid.regular.has_demand n all (cost_in c) small bounded some in
      let lower = greatest_most v (lower_in c) (item.setup * c.den * sum item.law ^ item.lead * v ^ n) (half_width item n) setup (λ k r e. lower_small (cost_in c) c.low c.high (slice_index (lower_in c)) (slice_index (upper_in c)) small bounded equations k r (omega (arith, e, many, length-map c.cells (λ (cell : AverageCell). cell.lower)))) in
      let upper = greatest_most v (upper_in c) _ (half_width item n) lower (λ k r e. upper_small (cost_in c) c.low c.high (slice_index (lower_in c)) (slice_index (upper_in c)) small bounded equations k r (omega (arith, e, many, length-map c.cells (λ (cell : AverageCell). cell.upper)))) in
      let den = denominator_small item valid.regular.has_demand n all (cost_in c) small bounded some in
      (omega (arith, half_small, upper), omega (arith, half_small, den))
