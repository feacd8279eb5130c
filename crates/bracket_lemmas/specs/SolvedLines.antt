-- The lines of the solver's certificate are those of a whole text, and break no rule.
use Rattle.std.proofs.Common.{◌≡◌, ℕ, suc, ◌<◌, ◌≤◌, ◌^◌, ℤ, pos, ◌+ℤ◌, ◌-ℤ◌, ◌≤ℤ◌, ◌<ℤ◌, Bool, true, false, ◌&&◌, if◌then◌else◌, List, [], ◌∷◌, ◌++◌, length, map, slice_index_or, Option, Some, None, refl, sym, ◌∙◌, ap, arith}
use Rattle.std.specs.Prelude.{int_le, int_lt, unsigned_abs, ◌==◌}
use Rattle.std.specs.List.{list_all}
use Rattle.std.proofs.lemmas.Int.{ints}
use Rattle.std.proofs.lemmas.Bool.{le-leb}
use Rattle.std.proofs.lemmas.Bool.Decides.{nat_tests}
use Rattle.std.proofs.lemmas.List.{get_or-map}
use Rattle.std.proofs.lemmas.List.FromFn.{get_or-map-range_with_len}
use Rattle.line_text.specs.Breaches.{ruled, lines_breach}
use Rattle.decision_model.specs.declared.average.Average.{Average}
use Rattle.decision_model.specs.Average.{average_positions}
use Rattle.decision_model.specs.PositionTests.{le_test}
use Rattle.decision_model.specs.WideAverage.{IsWideAverage}
use Rattle.value_cert.specs.AverageLeast.{IsPair}
use Rattle.value_cert.specs.AverageRules.{is_pair}
use Rattle.value_cert.specs.AverageValues.{at_place}
use Rattle.value_cert.specs.Bracket.{bounds_row, pair_row, cell_row, bracket_rows, bracket_lines, HasBracketText}
use Rattle.value_cert.specs.BracketRules.{no_cells, is_bound, are_bounds, are_cells_whole, bracket_rules, IsBracket}
use Rattle.value_cert.specs.BracketValues.{most_bound}
use Rattle.value_cert.specs.FlatGrammar.{flat_grammar}
use Rattle.value_cert.specs.FlatKept.{KeepsFlat, passing_by}
use Rattle.value_cert.specs.FlatLines.{AreRows, IsWhole, has_numbers}
use Rattle.value_cert.specs.Numbers.{is_whole}
use Rattle.value_cert.specs.declared.bracket.BracketCell.{BracketCell}
use Rattle.value_cert.specs.declared.bracket.BracketCert.{BracketCert}
use Rattle.value_cert.specs.declared.flat_line.FlatLine.TheVariants.{End}
use Rattle.value_cert.specs.declared.flat_line.FlatName.TheVariants.{Bracket}
use Rattle.average_lemmas.specs.Orders.{lt_test}
use Rattle.bracket_lemmas.specs.CertifiedBracket.{count_cells}
use Rattle.bracket_lemmas.specs.KeptCells.{AreKept}
use Rattle.bracket_lemmas.specs.SolvedCert.{solved_bracket}
use Rattle.bracket_lemmas.specs.SolvedKept.{solved_kept}
use Rattle.bracket_lemmas.specs.SolvedSound.{solved_is}
use Rattle.bracket_lemmas.specs.WideSizes.{near_place, most_small, setup_less, raise_small}

both : (x y : Bool) → x ≡ true → y ≡ true → (x && y) ≡ true
both x y e f = rw (e, f) refl

goes_on : (b : Bool) (later : Option ℕ) (rule : ℕ) → b ≡ true → later ≡ None → (if b then later else Some rule) ≡ None
goes_on b later rule h none = rw h none

same_test : (a b : ℕ) → a ≡ b → (a == b) ≡ true
same_test a b h = grind (arith, nat_tests)

-- ---- the rules
module _ (item : Average) where
  -- cells that are kept are rows that break no rule
  rows_kept : (lower upper : ℕ) (low high : ℤ) (us : List ℕ) (os : List ℤ) (cells : List BracketCell) → AreKept item (record { rows = 2; lower = lower; upper = upper; low = low; high = high; under = us; over = os }) cells
      → KeepsFlat (bracket_rules item) (record { rows = 2; lower = lower; upper = upper; low = low; high = high; under = us; over = os }) (map cell_row cells ++ End ∷ [])
  rows_kept lower upper low high us os [] whole = (goes_on (are_cells_whole item (record { rows = 2; lower = lower; upper = upper; low = low; high = high; under = us; over = os })) None 2 (same_test (length us) (average_positions item) whole) refl, tt)
  rows_kept lower upper low high us os (cell ∷ cells) kept = (kept.0, rows_kept lower upper low high (us ++ cell.under ∷ []) (os ++ cell.over ∷ []) cells kept.1)

  bound_test : (n : ℕ) → n ≤ most_bound item → is_bound item (pos n) ≡ true
  bound_test n small = both (int_le (pos 0) (pos n)) (int_le (pos n) (pos (most_bound item))) (le_test (pos 0) (pos n) (omega (arith, ints))) (le_test (pos n) (pos (most_bound item)) (omega (arith, ints, small)))

  pair_test : (low high : ℤ) → IsPair item low high → is_pair item low high ≡ true
  pair_test low high pair =
      both (int_le (item.floor -ℤ pos 1) low && int_lt low high) (int_le high item.cap)
      (both (int_le (item.floor -ℤ pos 1) low) (int_lt low high) (le_test (item.floor -ℤ pos 1) low (down item.floor low pair.above)) (lt_test low high pair.ordered))
      (le_test high item.cap pair.within)
    where
      down : (floor low : ℤ) → floor ≤ℤ (low +ℤ pos 1) → (floor -ℤ pos 1) ≤ℤ low
      down floor low le = omega (arith, ints, le)

  -- a certificate whose cells are kept breaks no rule
  pub cert_kept : (c : BracketCert) → c.lower ≤ most_bound item → c.upper ≤ most_bound item → IsPair item c.low c.high
      → AreKept item (record { rows = 2; lower = c.lower; upper = c.upper; low = c.low; high = c.high; under = []; over = [] }) c.cells → KeepsFlat (bracket_rules item) no_cells (bracket_lines c)
  cert_kept c lower upper pair kept =
      let bounds = goes_on (are_bounds item (pos c.lower) (pos c.upper)) None 3 (both (is_bound item (pos c.lower)) (is_bound item (pos c.upper)) (bound_test c.lower lower) (bound_test c.upper upper)) refl in
      let order = goes_on (is_pair item c.low c.high) None 4 (pair_test c.low c.high pair) refl in
      (refl, (bounds, (order, rows_kept c.lower c.upper c.low c.high [] [] c.cells kept)))

-- ---- the text
whole_test : (z : ℤ) → unsigned_abs z ≤ 2 ^ 120 → is_whole z ≡ true
whole_test z small = le-leb (unsigned_abs z) (2 ^ 120) small

-- rows of cells with numbers
cells_numbers : (cells : List BracketCell) → ((k : ℕ) (d : BracketCell) → k < length cells → has_numbers (cell_row (slice_index_or cells k d)) ≡ true) → list_all has_numbers (map cell_row cells ++ End ∷ []) ≡ true
cells_numbers [] each = refl
cells_numbers (cell ∷ cells) each =
    ap (λ b. b && list_all has_numbers (map cell_row cells ++ End ∷ [])) (each 0 cell (omega arith)) ∙ cells_numbers cells (λ k d lt. each (suc k) d (omega (arith, lt)))

module _ (item : Average) (wide : IsWideAverage item) (c : BracketCert) (is : IsBracket item c) where
  many : length c.cells ≡ average_positions item
  many = count_cells item wide c is.positions

  cell_numbers : (k : ℕ) (d : BracketCell) → k < length c.cells → has_numbers (cell_row (slice_index_or c.cells k d)) ≡ true
  cell_numbers k d lt =
      let within : k < average_positions item = omega (arith, lt, many) in
      let under_is = get_or-map (λ (cell : BracketCell). cell.under) c.cells k d 0 lt in
      let over_is = get_or-map (λ (cell : BracketCell). cell.over) c.cells k d (pos 0) lt in
      let at_is = get_or-map (λ (cell : BracketCell). cell.at) c.cells k d (pos 0) lt in
      let place_is = ap (λ (xs : List ℤ). slice_index_or xs k (pos 0)) is.positions ∙ get_or-map-range_with_len (at_place item) 0 (average_positions item) k k (pos 0) within (omega arith) in
      numbers (slice_index_or c.cells k d)
      (omega (arith, ap unsigned_abs (sym at_is ∙ place_is), near_place item wide k within))
      (omega (arith, under_is, is.is_under.within k within, setup_less item wide, most_small item wide))
      (omega (arith, ap unsigned_abs over_is, is.is_over.small k within, raise_small item wide))
    where
      numbers : (cell : BracketCell) → unsigned_abs cell.at ≤ 2 ^ 120 → cell.under ≤ 2 ^ 120 → unsigned_abs cell.over ≤ 2 ^ 120 → has_numbers (cell_row cell) ≡ true
      numbers cell at under over = rw (whole_test cell.at at, whole_test (pos cell.under) under, whole_test cell.over over) refl

  near : (z : ℤ) → (item.floor -ℤ pos 1) ≤ℤ z → z ≤ℤ item.cap → is_whole z ≡ true
  near z low high = whole_test z (omega (arith, ints, low, high, wide.readable.floor.least, wide.readable.cap.most))

  -- a bracket has a text
  pub bracket_text : HasBracketText c
  bracket_text =
      let lower = whole_test (pos c.lower) (omega (arith, is.lower_small, most_small item wide)) in
      let upper = whole_test (pos c.upper) (omega (arith, is.upper_small, most_small item wide)) in
      let low = near c.low (below item.floor c.low is.pair.above) (beneath c.low c.high item.cap is.pair.ordered is.pair.within) in
      let high = near c.high (past item.floor c.low c.high is.pair.above is.pair.ordered) is.pair.within in
      rw (lower, upper, low, high) (cells_numbers c.cells cell_numbers)
    where
      below : (floor low : ℤ) → floor ≤ℤ (low +ℤ pos 1) → (floor -ℤ pos 1) ≤ℤ low
      below floor low le = omega (arith, ints, le)

      beneath : (low high cap : ℤ) → low <ℤ high → high ≤ℤ cap → low ≤ℤ cap
      beneath low high cap lt le = omega (arith, ints, lt, le)

      past : (floor low high : ℤ) → floor ≤ℤ (low +ℤ pos 1) → low <ℤ high → (floor -ℤ pos 1) ≤ℤ high
      past floor low high le lt = omega (arith, ints, le, lt)

-- lines that have a text are whole
cell_rows : (cells : List BracketCell) → list_all has_numbers (map cell_row cells ++ End ∷ []) ≡ true → AreRows (map cell_row cells)
cell_rows [] h = tt
cell_rows (cell ∷ cells) h =
    let here = parts (has_numbers (cell_row cell)) (list_all has_numbers (map cell_row cells ++ End ∷ [])) h in (here.0, cell_rows cells here.1)
  where
    parts : (x y : Bool) → (x && y) ≡ true → (x ≡ true) × (y ≡ true)
    parts true y h = (refl, h)
    parts false y h = absurd (cc)

pub lines_whole : (c : BracketCert) → HasBracketText c → IsWhole (bracket_lines c)
lines_whole c h =
    let first = parts (has_numbers (bounds_row (pos c.lower) (pos c.upper))) _ h in
    let second = parts (has_numbers (pair_row c.low c.high)) _ first.1 in
    (bracket_rows c, (first.0, (second.0, cell_rows c.cells second.1)), refl)
  where
    parts : (x y : Bool) → (x && y) ≡ true → (x ≡ true) × (y ≡ true)
    parts true y h = (refl, h)
    parts false y h = absurd (cc)

-- ---- the solver's
pub solved_text : (item : Average) → IsWideAverage item → HasBracketText (solved_bracket item)
solved_text item wide = bracket_text item wide (solved_bracket item) (solved_is item wide).accepted

pub solved_lines : (item : Average) → IsWideAverage item → lines_breach (ruled (flat_grammar Bracket) (bracket_rules item)) (bracket_lines (solved_bracket item)) ≡ None
solved_lines item wide =
    let is = (solved_is item wide).accepted in
    passing_by Bracket (bracket_rules item) (bracket_lines (solved_bracket item)) (lines_whole (solved_bracket item) (solved_text item wide))
    (cert_kept item (solved_bracket item) is.lower_small is.upper_small is.pair (solved_kept item wide))
