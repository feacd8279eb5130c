-- The solver's certificate of a serial system has a text.
use Rattle.std.proofs.Common.{◌≡◌, ℕ, zero, suc, ◌+◌, ◌-◌, ◌*◌, ◌^◌, ◌<◌, ◌≤◌, lit≤, true, ◌&&◌, [], ◌∷◌, ◌++◌, length, map, ℤ, pos, negsuc, ◌+ℤ◌, ◌-ℤ◌, ◌≤ℤ◌, refl, ◌∙◌, arith}
use Rattle.std.specs.Prelude.{int_le, unsigned_abs, slice_index_or}
use Rattle.std.specs.Int.{int_min}
use Rattle.std.specs.List.{flat_map, list_all, range_with_len}
use Rattle.std.proofs.lemmas.Bool.{and_from, le-leb}
use Rattle.std.proofs.lemmas.Int.{ints, clamps}
use Rattle.std.proofs.lemmas.List.Folds.{list_all-append}
use Rattle.std.proofs.lemmas.List.FromFn.{length-map-range_with_len}
use Rattle.std.proofs.lemmas.Nat.{mul-le}
use Rattle.demand_law.specs.Integers as Z
use Rattle.demand_law.specs.Sequences.{greatest_in}
use Rattle.decision_model.specs.declared.serial.Serial.{Serial}
use Rattle.decision_model.specs.LawFacts.{greatest_in_range}
use Rattle.decision_model.specs.Positions.{above_zero}
use Rattle.decision_model.specs.PositionTests.{le_test, above_zero_is, above_zero_least}
use Rattle.decision_model.specs.Serial.{IsReadableSerial, IsValidSerial, serial_low}
use Rattle.decision_model.specs.SerialSound.{low_zero}
use Rattle.value_cert.specs.Contents.{EachIs}
use Rattle.value_cert.specs.Grammar.{has_numbers}
use Rattle.value_cert.specs.Numbers.{is_natural, is_whole, is_discount}
use Rattle.value_cert.specs.Serial.{part_line, echelon_lines, period_lines, HasParts, HasEchelons}
use Rattle.value_cert.specs.SerialRules.{solved_cell, solved_row, solved_period, solved_serial}
use Rattle.value_cert.specs.SerialValues.{solved_values, solved_level, row_width}
use Rattle.value_cert.specs.Texts.{HasText}
use Rattle.value_cert.specs.declared.cert.Cert.TheVariants as cert
use Rattle.value_cert.specs.declared.line.CertLine.TheVariants.{End}
use Rattle.serial_lemmas.specs.BoundedValues.{solved_bounded, bound_fits}
use Rattle.serial_lemmas.specs.SolvedKept.{level_is}

-- ---- numbers
-- a number of ℕ that is small may stand where a natural number may
natural : (n : ℕ) → n ≤ 4000000 → is_natural (pos n) ≡ true
natural n small =
    let range : 4000000 ≤ 2 ^ 120 = lit≤ tt in
    and_from (int_le (pos 0) (pos n)) (int_le (pos n) (pos (2 ^ 120))) (le_test (pos 0) (pos n) (omega (arith, ints))) (le_test (pos n) (pos (2 ^ 120)) (omega (arith, ints, small, range)))

-- a small position may stand where a whole number may
whole : (z : ℤ) → negsuc 3999999 ≤ℤ z → z ≤ℤ pos 4000000 → is_whole z ≡ true
whole z from to =
    let range : 4000000 ≤ 2 ^ 120 = lit≤ tt in
    le-leb (unsigned_abs z) (2 ^ 120) (omega (arith, ints, range, size z from to))
  where
    size : (z : ℤ) → negsuc 3999999 ≤ℤ z → z ≤ℤ pos 4000000 → unsigned_abs z ≤ 4000000
    size z from to = omega (arith, ints, from, to)

module _ (serial : Serial) (valid : IsValidSerial serial) where
  -- the instance is readable
  readable : IsReadableSerial serial
  readable = valid.regular.readable

  -- no position of a grid is far below 0
  low_near : (t : ℕ) → t ≤ serial.periods → negsuc 3999999 ≤ℤ serial_low serial t
  low_near t le =
      let fall = mul-le (t - 1) (greatest_in serial.laws) 104 10000 (omega (arith, le, readable.periods.most)) (greatest_in_range serial.laws serial.periods readable.laws) in
      let first = readable.start 0 (pos 0) (omega (arith, readable.start_each, readable.some_echelon)) in
      near (slice_index_or serial.start 0 (pos 0)) ((t - 1) * greatest_in serial.laws) first.least fall
    where
      near : (start : ℤ) (fall : ℕ) → negsuc 999999 ≤ℤ start → fall ≤ 104 * 10000 → negsuc 3999999 ≤ℤ (int_min start (pos 0) -ℤ pos fall)
      near start fall from small = omega (arith, ints, clamps, from, small)

  -- the numbers of a cell may stand there
  cell_numbers : (n t i : ℕ) (x : ℤ) → 1 ≤ t → t + n ≡ serial.periods → i < length serial.holding → serial_low serial t ≤ℤ x → x ≤ℤ serial.cap → has_numbers (part_line (solved_cell serial n t i x)) ≡ true
  cell_numbers n t i x pt e lt from to =
      let low = Z.le_trans (negsuc 3999999) (serial_low serial t) x (low_near t (omega (arith, e))) from in
      let cap = readable.cap.most in
      let value = solved_bounded serial readable (suc n) t pt (omega (arith, e)) i x lt from to in
      let fits = bound_fits serial readable valid.width (suc n) i (omega (arith, e, pt)) lt in
      and_from (is_whole x) (is_whole (solved_values serial (suc n) t i x)) (whole x low (omega (arith, ints, to, cap))) (le-leb (unsigned_abs (solved_values serial (suc n) t i x)) (2 ^ 120) (omega (arith, value, fits)))

  -- so may those of the cells of a row from a place on
  cells_numbers : (n t i : ℕ) → 1 ≤ t → t + n ≡ serial.periods → i < length serial.holding → (place m : ℕ) → place + m ≤ row_width serial t
      → list_all has_numbers (map part_line (map (λ k. solved_cell serial n t i (serial_low serial t +ℤ pos k)) (range_with_len place m))) ≡ true
  cells_numbers n t i pt e lt place zero le = refl
  cells_numbers n t i pt e lt place (suc m) le =
      let x = serial_low serial t +ℤ pos place in
      let rest = map part_line (map (λ k. solved_cell serial n t i (serial_low serial t +ℤ pos k)) (range_with_len (place + 1) m)) in
      and_from (has_numbers (part_line (solved_cell serial n t i x))) (list_all has_numbers rest)
      (cell_numbers n t i x pt e lt (from (serial_low serial t)) (below (serial_low serial t) (low_zero serial t) (omega (arith, le))))
      (cells_numbers n t i pt e lt (place + 1) m (omega (arith, le)))
    where
      from : (low : ℤ) → low ≤ℤ (low +ℤ pos place)
      from low = omega (arith, ints)

      below : (low : ℤ) → low ≤ℤ pos 0 → place < above_zero (serial.cap -ℤ low +ℤ pos 1) → (low +ℤ pos place) ≤ℤ serial.cap
      below low le inside = omega (arith, ints, inside, above_zero_is (serial.cap -ℤ low +ℤ pos 1) (omega (arith, ints, le, readable.cap.least)))

  -- and those of a row
  row_numbers : (n t i : ℕ) → 1 ≤ t → t + n ≡ serial.periods → i < length serial.holding → list_all has_numbers (echelon_lines (solved_row serial n t i)) ≡ true
  row_numbers n t i pt e lt =
      let is = level_is serial readable n t i in
      let level = solved_level serial n t i in
      let low = Z.le_trans (negsuc 3999999) (serial_low serial t) level (low_near t (omega (arith, e))) is.from_low in
      and_from (is_natural (pos (suc i)) && is_whole level) (list_all has_numbers (map part_line (solved_row serial n t i).cells))
      (and_from (is_natural (pos (suc i))) (is_whole level) (natural (suc i) (omega (arith, lt, readable.most_echelons))) (whole level low (omega (arith, ints, is.to_cap, readable.cap.most))))
      (cells_numbers n t i pt e lt 0 (row_width serial t) (omega arith))

  -- and those of some rows
  rows_numbers : (n t : ℕ) → 1 ≤ t → t + n ≡ serial.periods → (m i : ℕ) → i + m ≡ length serial.holding → list_all has_numbers (flat_map echelon_lines (map (solved_row serial n t) (range_with_len i m))) ≡ true
  rows_numbers n t pt e zero i f = refl
  rows_numbers n t pt e (suc m) i f =
      let first = echelon_lines (solved_row serial n t i) in
      let rest = flat_map echelon_lines (map (solved_row serial n t) (range_with_len (i + 1) m)) in
      list_all-append has_numbers first rest
      ∙ and_from (list_all has_numbers first) (list_all has_numbers rest) (row_numbers n t i pt e (omega (arith, f))) (rows_numbers n t pt e m (i + 1) (omega (arith, f)))

  -- and those of some periods
  periods_numbers : (m j : ℕ) → j + m ≡ serial.periods → list_all has_numbers (flat_map period_lines (map (λ n. solved_period serial n (serial.periods - n)) (range_with_len j m))) ≡ true
  periods_numbers zero j e = refl
  periods_numbers (suc m) j e =
      let t = serial.periods - j in
      let rows = flat_map echelon_lines (solved_period serial j t).rows in
      let first = period_lines (solved_period serial j t) in
      let rest = flat_map period_lines (map (λ n. solved_period serial n (serial.periods - n)) (range_with_len (j + 1) m)) in
      let here = and_from (is_natural (pos t)) (list_all has_numbers rows) (natural t (omega (arith, e, readable.periods.most))) (rows_numbers j t (omega (arith, e)) (omega (arith, e)) (length serial.holding) 0 (omega arith)) in
      list_all-append has_numbers first rest
      ∙ and_from (list_all has_numbers first) (list_all has_numbers rest) here (periods_numbers m (j + 1) (omega (arith, e)))

  -- each row has a position
  row_some : (n t i : ℕ) → HasParts (solved_row serial n t i)
  row_some n t i =
      let count = length-map-range_with_len (λ k. solved_cell serial n t i (serial_low serial t +ℤ pos k)) 0 (row_width serial t) in
      omega (arith, count, some (serial_low serial t) (low_zero serial t))
    where
      some : (low : ℤ) → low ≤ℤ pos 0 → 0 < above_zero (serial.cap -ℤ low +ℤ pos 1)
      some low below = omega (arith, ints, below, readable.cap.least, above_zero_least (serial.cap -ℤ low +ℤ pos 1))

  -- so has each of some rows
  rows_some : (n t m i : ℕ) → EachIs HasParts (map (solved_row serial n t) (range_with_len i m))
  rows_some n t zero i = tt
  rows_some n t (suc m) i = (row_some n t i, rows_some n t m (i + 1))

  -- each of some periods has echelons
  periods_some : (m j : ℕ) → EachIs HasEchelons (map (λ n. solved_period serial n (serial.periods - n)) (range_with_len j m))
  periods_some zero j = tt
  periods_some (suc m) j =
      let t = serial.periods - j in
      let count = length-map-range_with_len (solved_row serial j t) 0 (length serial.holding) in
      (record { some = omega (arith, count, readable.some_echelon); each = rows_some j t (length serial.holding) 0 }, periods_some m (j + 1))

  -- the discount may stand in the head
  head_numbers : is_discount (pos serial.discount_num) (pos serial.discount_den) ≡ true
  head_numbers =
      let num = pos serial.discount_num in
      let den = pos serial.discount_den in
      and_from (int_le (pos 1) num && int_le num den) (int_le den (pos 1000))
      (and_from (int_le (pos 1) num) (int_le num den) (le_test (pos 1) num (omega (arith, ints, readable.discount.least))) (le_test num den (omega (arith, ints, readable.discount.proper))))
      (le_test den (pos 1000) (omega (arith, ints, readable.discount.most)))

  -- the solver's certificate has a text
  pub solved_serial_text : HasText (cert.Serial (solved_serial serial))
  solved_serial_text =
      let periods = (solved_serial serial).periods in
      let lines = flat_map period_lines periods in
      let last = End ∷ [] in
      let count = length-map-range_with_len (λ n. solved_period serial n (serial.periods - n)) 0 serial.periods in
      let body = list_all-append has_numbers lines last ∙ and_from (list_all has_numbers lines) true (periods_numbers serial.periods 0 (omega arith)) refl in
      record {
        numbers = and_from (is_discount (pos serial.discount_num) (pos serial.discount_den)) (list_all has_numbers (lines ++ last)) head_numbers body;
        complete = record { some = omega (arith, count, readable.periods.least); each = periods_some serial.periods 0 };
      }
