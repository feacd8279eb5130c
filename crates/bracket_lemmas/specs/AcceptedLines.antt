-- Lines of a whole text that break no rule are those of a certificate which bounds every number of periods.
use Rattle.std.proofs.Common.{◌≡◌, ℕ, ◌≤◌, ℤ, pos, ◌+ℤ◌, ◌-ℤ◌, ◌≤ℤ◌, ◌<ℤ◌, Bool, true, false, ◌&&◌, IsTrue, if◌then◌else◌, List, [], ◌∷◌, ◌++◌, length, drop, map, Option, Some, None, refl, sym, ◌∙◌, ap, subst, arith}
use Rattle.std.specs.Prelude.{int_le, int_lt, unsigned_abs, ◌==◌}
use Rattle.std.specs.List.{list_all}
use Rattle.std.proofs.lemmas.Int.{ints}
use Rattle.std.proofs.lemmas.Bool.{and_parts}
use Rattle.std.proofs.lemmas.Bool.Decides.{nat_tests}
use Rattle.line_text.specs.Breaches.{ruled, lines_breach}
use Rattle.decision_model.specs.declared.average.Average.{Average}
use Rattle.decision_model.specs.Average.{average_positions}
use Rattle.decision_model.specs.PositionTests.{le_known}
use Rattle.decision_model.specs.WideAverage.{IsWideAverage}
use Rattle.value_cert.specs.AverageLeast.{IsPair}
use Rattle.value_cert.specs.AverageRules.{is_pair}
use Rattle.value_cert.specs.Bracket.{bounds_row, pair_row, cell_row, bracket_lines, HasBracketText}
use Rattle.value_cert.specs.BracketRules.{FirstCells, no_cells, is_bound, are_bounds, is_row, is_under_entry, cell_rule, are_cells_whole, bracket_rules, IsBracket}
use Rattle.value_cert.specs.BracketValues.{most_bound}
use Rattle.value_cert.specs.FlatFacts.{row_tests, zero_is}
use Rattle.value_cert.specs.FlatGrammar.{flat_grammar}
use Rattle.value_cert.specs.FlatKept.{KeepsFlat, kept_by}
use Rattle.value_cert.specs.FlatLines.{AreRows, IsWhole, has_numbers, is_zero, four}
use Rattle.value_cert.specs.declared.bracket.BracketCell.{BracketCell}
use Rattle.value_cert.specs.declared.bracket.BracketCert.{BracketCert}
use Rattle.value_cert.specs.declared.flat_line.FlatLine.{FlatLine}
use Rattle.value_cert.specs.declared.flat_line.FlatLine.TheVariants.{Head, Row, End}
use Rattle.value_cert.specs.declared.flat_line.FlatName.TheVariants.{Bracket}
use Rattle.bracket_lemmas.specs.KeptCells.{AreKept, accepted_bracket}

-- the lines are those of a certificate that bounds every number of periods
pub record AreBracketed (item : Average) (lines : List FlatLine) : Type 0 where
  pub cert : BracketCert
  pub readable : HasBracketText cert
  pub lines_are : lines ≡ bracket_lines cert
  pub bracket : IsBracket item cert

-- ---- tests
passes : (b : Bool) (later : Option ℕ) (rule : ℕ) → (if b then later else Some rule) ≡ None → IsTrue b × (later ≡ None)
passes true later rule h = (refl, h)
passes false later rule h = cc

same_says : (a b : ℕ) → IsTrue (a == b) → a ≡ b
same_says a b h = grind (arith, nat_tests)

natural_back : (z : ℤ) → pos 0 ≤ℤ z → pos (unsigned_abs z) ≡ z
natural_back z h = omega (arith, ints, h)

-- ---- rows
-- the numbers that a row has: past its count stands 0
two_row : (letter tag count : ℕ) (a b c e : ℤ) → has_numbers (Row tag count a b c e) ≡ true → IsTrue (is_row letter 2 tag count) → Row tag count a b c e ≡ Row letter 2 a b (pos 0) (pos 0)
two_row letter tag count a b c e has is =
    let both = and_parts (tag == letter) (count == 2) is in
    let numbers = same_says count 2 both.1 in
    let zeros : (is_zero c && (is_zero e && true)) ≡ true = subst (λ (n : ℕ). list_all is_zero (drop n (four a b c e)) ≡ true) numbers (row_tests tag count a b c e has).zeros in
    let third = and_parts (is_zero c) (is_zero e && true) zeros in
    let fourth = and_parts (is_zero e) true third.1 in
    (λ i. Row (same_says tag letter both.0 i) (numbers i) a b (zero_is c third.0 i) (zero_is e fourth.0 i))

three_row : (letter tag count : ℕ) (a b c e : ℤ) → has_numbers (Row tag count a b c e) ≡ true → IsTrue (is_row letter 3 tag count) → Row tag count a b c e ≡ Row letter 3 a b c (pos 0)
three_row letter tag count a b c e has is =
    let both = and_parts (tag == letter) (count == 3) is in
    let numbers = same_says count 3 both.1 in
    let zeros : (is_zero e && true) ≡ true = subst (λ (n : ℕ). list_all is_zero (drop n (four a b c e)) ≡ true) numbers (row_tests tag count a b c e has).zeros in
    let fourth = and_parts (is_zero e) true zeros in
    (λ i. Row (same_says tag letter both.0 i) (numbers i) a b c (zero_is e fourth.0 i))

-- the cell of a row
abbrev cell_of : FlatLine → BracketCell
cell_of (Row tag count a b c e) = record { at = a; under = unsigned_abs b; over = c }
cell_of Head = record { at = pos 0; under = 0; over = pos 0 }
cell_of End = record { at = pos 0; under = 0; over = pos 0 }

module _ (item : Average) (lower upper : ℕ) (low high : ℤ) where
  abbrev known : List ℕ → List ℤ → FirstCells
  known us os = record { rows = 2; lower = lower; upper = upper; low = low; high = high; under = us; over = os }

  -- an under entry that breaks no rule is a natural number
  natural_under : (us : List ℕ) (os : List ℤ) (a b c : ℤ) → cell_rule item (known us os) a b c ≡ None → pos (unsigned_abs b) ≡ b
  natural_under us os a b c none =
      let under = passes (is_under_entry item lower us b) _ 5 (passes _ _ 2 none).1 in
      natural_back b (le_known (pos 0) b (and_parts (int_le (pos 0) b) _ under.0).0)

  -- the rows behind the pair are cells that are kept
  cells_are : (rows : List FlatLine) (us : List ℕ) (os : List ℤ) → AreRows rows → KeepsFlat (bracket_rules item) (known us os) (rows ++ End ∷ [])
      → (rows ≡ map cell_row (map cell_of rows)) × AreKept item (known us os) (map cell_of rows)
  cells_are [] us os are kept =
      let whole = passes (are_cells_whole item (known us os)) None 2 kept.0 in
      (refl, same_says (length us) (average_positions item) (and_parts true (length us == average_positions item) whole.0).1)
  cells_are (Row tag count a b c e ∷ rows) us os are kept =
      let letter = passes (is_row 112 3 tag count) (cell_rule item (known us os) a b c) 2 kept.0 in
      let back = natural_under us os a b c letter.1 in
      let rest = cells_are rows (us ++ unsigned_abs b ∷ []) (os ++ c ∷ []) are.1 kept.1 in
      let here : Row tag count a b c e ≡ cell_row (cell_of (Row tag count a b c e)) = three_row 112 tag count a b c e are.0 letter.0 ∙ (λ i. Row 112 3 a (sym back i) c (pos 0)) in
      ((λ i. here i ∷ rest.0 i), (subst (λ (z : ℤ). cell_rule item (known us os) a z c ≡ None) (sym back) letter.1, rest.1))
  cells_are (Head ∷ rows) us os are kept = absurd are.0
  cells_are (End ∷ rows) us os are kept = absurd are.0

-- ---- whole lines
pair_known : (item : Average) (low high : ℤ) → IsTrue (is_pair item low high) → IsPair item low high
pair_known item low high h =
    let ends = and_parts (int_le (item.floor -ℤ pos 1) low && int_lt low high) (int_le high item.cap) h in
    let front = and_parts (int_le (item.floor -ℤ pos 1) low) (int_lt low high) ends.0 in
    record { above = up item.floor low (le_known (item.floor -ℤ pos 1) low front.0); ordered = less low high front.1; within = le_known high item.cap ends.1 }
  where
    up : (floor low : ℤ) → (floor -ℤ pos 1) ≤ℤ low → floor ≤ℤ (low +ℤ pos 1)
    up floor low le = omega (arith, ints, le)

    less : (a b : ℤ) → IsTrue (int_lt a b) → a <ℤ b
    less a b h = grind (arith, ints)

bound_known : (item : Average) (z : ℤ) → IsTrue (is_bound item z) → (pos (unsigned_abs z) ≡ z) × (unsigned_abs z ≤ most_bound item)
bound_known item z h =
    let both = and_parts (int_le (pos 0) z) (int_le z (pos (most_bound item))) h in
    let low = le_known (pos 0) z both.0 in
    (natural_back z low, small z (most_bound item) low (le_known z (pos (most_bound item)) both.1))
  where
    small : (z : ℤ) (m : ℕ) → pos 0 ≤ℤ z → z ≤ℤ pos m → unsigned_abs z ≤ m
    small z m low high = omega (arith, ints, low, high)

row_numbers : (rows : List FlatLine) → AreRows rows → list_all has_numbers (rows ++ End ∷ []) ≡ true
row_numbers [] are = refl
row_numbers (Row tag count a b c e ∷ rows) are = ap (λ t. t && list_all has_numbers (rows ++ End ∷ [])) are.0 ∙ row_numbers rows are.1
row_numbers (Head ∷ rows) are = absurd are.0
row_numbers (End ∷ rows) are = absurd are.0

module _ (item : Average) (wide : IsWideAverage item) where
  -- the certificate of rows
  rows_are : (rows : List FlatLine) → AreRows rows → KeepsFlat (bracket_rules item) no_cells (rows ++ End ∷ []) → AreBracketed item (Head ∷ rows ++ End ∷ [])
  rows_are [] are kept = absurd (cc (kept.0))
  rows_are (Head ∷ rows) are kept = absurd are.0
  rows_are (End ∷ rows) are kept = absurd are.0
  rows_are (Row tag count a b c e ∷ []) are kept = absurd (cc (kept.1.0))
  rows_are (Row tag count a b c e ∷ Head ∷ rows) are kept = absurd are.1.0
  rows_are (Row tag count a b c e ∷ End ∷ rows) are kept = absurd are.1.0
  rows_are (Row tag count a b c e ∷ Row next many low high f g ∷ rows) are kept =
      let first = passes (is_row 103 2 tag count) _ 2 kept.0 in
      let bounds = and_parts (is_bound item a) (is_bound item b) (passes (are_bounds item a b) None 3 first.1).0 in
      let lower = bound_known item a bounds.0 in
      let upper = bound_known item b bounds.1 in
      let second = passes (is_row 115 2 next many) _ 2 kept.1.0 in
      let pair = pair_known item low high (passes (is_pair item low high) None 4 second.1).0 in
      let cells = cells_are item (unsigned_abs a) (unsigned_abs b) low high rows [] [] are.1.1 kept.1.1 in
      let own : BracketCert = record { lower = unsigned_abs a; upper = unsigned_abs b; low = low; high = high; cells = map cell_of rows } in
      let bounds_are : Row tag count a b c e ≡ bounds_row (pos (unsigned_abs a)) (pos (unsigned_abs b)) = two_row 103 tag count a b c e are.0 first.0 ∙ (λ i. bounds_row (sym lower.0 i) (sym upper.0 i)) in
      let pair_is : Row next many low high f g ≡ pair_row low high = two_row 115 next many low high f g are.1.0 second.0 in
      let same : Head ∷ (Row tag count a b c e ∷ Row next many low high f g ∷ rows) ++ End ∷ [] ≡ bracket_lines own = (λ i. Head ∷ bounds_are i ∷ pair_is i ∷ (cells.0 i ++ End ∷ [])) in
      record {
        cert = own;
        readable = subst (λ (lines : List FlatLine). list_all has_numbers lines ≡ true) same (row_numbers (Row tag count a b c e ∷ Row next many low high f g ∷ rows) are);
        lines_are = same;
        bracket = accepted_bracket item wide own lower.1 upper.1 pair cells.1;
      }

  pub kept_lines : (lines : List FlatLine) → IsWhole lines → KeepsFlat (bracket_rules item) no_cells lines → AreBracketed item lines
  kept_lines lines (rows, are, same) kept =
      subst (AreBracketed item) (sym same) (rows_are rows are (subst (λ (ls : List FlatLine). KeepsFlat (bracket_rules item) no_cells ls) same kept).1)

  -- whole lines without a breach
  pub accepted_lines : (lines : List FlatLine) → IsWhole lines → lines_breach (ruled (flat_grammar Bracket) (bracket_rules item)) lines ≡ None → AreBracketed item lines
  accepted_lines lines whole none = kept_lines lines whole (kept_by Bracket (bracket_rules item) lines none)
