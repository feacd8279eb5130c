-- The values of a certificate of a serial system that has a text are small.
use Rattle.std.proofs.Common.{◌≡◌, ℕ, suc, ◌+◌, ◌^◌, ◌<◌, ◌≤◌, Bool, true, false, List, [], ◌∷◌, ◌++◌, map, length, drop, ℤ, pos, ◌+ℤ◌, IsTrue, ap, arith, add-one, ◌==◌}
use Rattle.std.specs.Prelude.{unsigned_abs, slice_index_or, if◌then◌else◌}
use Rattle.std.proofs.Math.Seq.{drop-cons}
use Rattle.std.proofs.lemmas.Int.{ints}
use Rattle.std.specs.List.{flat_map, list_all}
use Rattle.decision_model.specs.declared.kinds.Kind.TheVariants as kind
use Rattle.decision_model.specs.SerialProblem.{over_echelons}
use Rattle.value_cert.proofs.Writing.{numbers_front, numbers_rest}
use Rattle.value_cert.specs.Grammar.{has_numbers}
use Rattle.value_cert.specs.NumberFacts.{both, small_from_whole}
use Rattle.value_cert.specs.Numbers.{is_number, is_whole}
use Rattle.value_cert.specs.Serial.{part_line, echelon_lines, period_lines}
use Rattle.value_cert.specs.SerialRules.{rows_of, row_cells, cell_value}
use Rattle.value_cert.specs.Texts.{cert_lines}
use Rattle.value_cert.specs.declared.cert.Cert.TheVariants as cert
use Rattle.value_cert.specs.declared.line.CertLine.{CertLine}
use Rattle.value_cert.specs.declared.line.CertLine.TheVariants.{Head, Period, Echelon, End}
use Rattle.value_cert.specs.declared.serial.SerialCell.{SerialCell}
use Rattle.value_cert.specs.declared.serial.SerialCert.{SerialCert}
use Rattle.value_cert.specs.declared.serial.SerialPeriod.{SerialPeriod}
use Rattle.value_cert.specs.declared.serial.SerialRow.{SerialRow}

-- the numbers of these lines are in range
abbrev pub AreNumbers : List CertLine → Type 0
AreNumbers lines = IsTrue (list_all has_numbers lines)

-- the value of a position is small
pub cell_small : (cells : List SerialCell) (x : ℤ) → AreNumbers (map part_line cells) → unsigned_abs (cell_value cells x) ≤ 2 ^ 120
cell_small [] x h = omega arith
cell_small (cell ∷ cells) x h =
    let here = numbers_front (part_line cell ∷ []) (map part_line cells) h in
    let line = both (has_numbers (part_line cell)) true here in
    let value = both (is_whole cell.at) (is_whole cell.value) line.0 in
    by_test (is_number cell.at x) (small_from_whole cell.value value.1) (cell_small cells x (numbers_rest (part_line cell ∷ []) (map part_line cells) h))
  where
    by_test : (b : Bool) → unsigned_abs cell.value ≤ 2 ^ 120 → unsigned_abs (cell_value cells x) ≤ 2 ^ 120 → unsigned_abs (if b then cell.value else cell_value cells x) ≤ 2 ^ 120
    by_test true first rest = first
    by_test false first rest = rest

-- the cells of an echelon have numbers in range
row_numbers : (rows : List SerialRow) (i : ℕ) → AreNumbers (flat_map echelon_lines rows) → AreNumbers (map part_line (row_cells rows i))
row_numbers [] i h = h
row_numbers (row ∷ rows) i h =
    let here = numbers_front (echelon_lines row) (flat_map echelon_lines rows) h in
    by_test (row.echelon == suc i) (numbers_rest (Echelon (pos row.echelon) row.level ∷ []) (map part_line row.cells) here)
    (row_numbers rows i (numbers_rest (echelon_lines row) (flat_map echelon_lines rows) h))
  where
    by_test : (b : Bool) → AreNumbers (map part_line row.cells) → AreNumbers (map part_line (row_cells rows i)) → AreNumbers (map part_line (if b then row.cells else row_cells rows i))
    by_test true first rest = first
    by_test false first rest = rest

-- the echelons of a period have numbers in range
period_numbers : (periods : List SerialPeriod) (t : ℕ) → AreNumbers (flat_map period_lines periods) → AreNumbers (flat_map echelon_lines (rows_of periods t))
period_numbers [] t h = h
period_numbers (period ∷ periods) t h =
    let here = numbers_front (period_lines period) (flat_map period_lines periods) h in
    by_test (period.period == t) (numbers_rest (Period (pos period.period) ∷ []) (flat_map echelon_lines period.rows) here)
    (period_numbers periods t (numbers_rest (period_lines period) (flat_map period_lines periods) h))
  where
    by_test : (b : Bool) → AreNumbers (flat_map echelon_lines period.rows) → AreNumbers (flat_map echelon_lines (rows_of periods t)) → AreNumbers (flat_map echelon_lines (if b then period.rows else rows_of periods t))
    by_test true first rest = first
    by_test false first rest = rest

-- each value of a certificate whose numbers are in range is small
pub values_small : (c : SerialCert) → AreNumbers (cert_lines (cert.Serial c)) → (t i : ℕ) (x : ℤ) → unsigned_abs (cell_value (row_cells (rows_of c.periods t) i) x) ≤ 2 ^ 120
values_small c h t i x =
    let head = Head kind.Serial (pos c.discount_num) (pos c.discount_den) in
    let behind = numbers_rest (head ∷ []) (flat_map period_lines c.periods ++ End ∷ []) h in
    let lines = numbers_front (flat_map period_lines c.periods) (End ∷ []) behind in
    cell_small (row_cells (rows_of c.periods t) i) x (row_numbers (rows_of c.periods t) i (period_numbers c.periods t lines))

-- ---- sums over echelons
-- one more echelon's value
pub one_more : (f : ℕ → ℤ → ℤ) (xs : List ℤ) (place : ℕ) (total value next : ℤ) → place < length xs → (total +ℤ over_echelons f place (drop place xs)) ≡ over_echelons f 0 xs
    → value ≡ f place (slice_index_or xs place (pos 0)) → next ≡ total +ℤ value → (next +ℤ over_echelons f (place + 1) (drop (place + 1) xs)) ≡ over_echelons f 0 xs
one_more f xs place total value next inside so_far here is =
    let first = ap (over_echelons f place) (drop-cons xs place (pos 0) inside) in
    let rest = ap (λ (k : ℕ). over_echelons f k (drop k xs)) (add-one place) in
    omega (arith, ints, first, rest, so_far, here, is)
