-- The certificate of a bracket: its lines, its tables by place, and its span.
use Rattle.std.specs.Prelude.{◌≡◌, ℕ, ◌+◌, max, ℤ, pos, ◌-ℤ◌, List, [], ◌∷◌, ◌++◌, map, slice_index, slice_index_or, Bool, true, IsTrue}
use Rattle.std.specs.List.{list_all}
use Rattle.decision_model.specs.declared.average.Average.{Average}
use Rattle.decision_model.specs.Positions.{above_zero}
use Rattle.value_cert.specs.BracketValues.{setup_parts}
use Rattle.value_cert.specs.FlatLines.{has_numbers}
use Rattle.value_cert.specs.declared.bracket.BracketCell.{BracketCell}
use Rattle.value_cert.specs.declared.bracket.BracketCert.{BracketCert}
use Rattle.value_cert.specs.declared.flat_line.FlatLine.{FlatLine}
use Rattle.value_cert.specs.declared.flat_line.FlatLine.TheVariants.{Head, Row, End}

-- ---- lines
-- both bounds, behind the letter g
abbrev pub bounds_row : ℤ → ℤ → FlatLine
bounds_row lower upper = Row 103 2 lower upper (pos 0) (pos 0)

-- the pair, behind the letter s
abbrev pub pair_row : ℤ → ℤ → FlatLine
pair_row low high = Row 115 2 low high (pos 0) (pos 0)

-- a position with its entries, behind the letter p
abbrev pub cell_row : BracketCell → FlatLine
cell_row cell = Row 112 3 cell.at (pos cell.under) cell.over (pos 0)

-- the rows of a certificate
abbrev pub bracket_rows : BracketCert → List FlatLine
bracket_rows c = bounds_row (pos c.lower) (pos c.upper) ∷ pair_row c.low c.high ∷ map cell_row c.cells

abbrev pub bracket_lines : BracketCert → List FlatLine
bracket_lines c = Head ∷ bracket_rows c ++ End ∷ []

-- no number passes 2^120 in size
abbrev pub HasBracketText : BracketCert → Type 0
HasBracketText c = IsTrue (list_all has_numbers (bracket_lines c))

-- ---- tables by place
abbrev pub under_in : BracketCert → ℕ → ℕ
under_in c = slice_index (map (λ cell. cell.under) c.cells)

abbrev pub over_in : BracketCert → ℕ → ℤ
over_in c k = slice_index_or (map (λ cell. cell.over) c.cells) k (pos 0)

-- ---- the span: from the least of 0 and the upper entries, to the greatest of the setup cost and them
unfoldable pub greatest_over : ℕ → List ℤ → ℕ
greatest_over most [] = most
greatest_over most (x ∷ xs) = greatest_over (max most (above_zero x)) xs

unfoldable pub depth_over : ℕ → List ℤ → ℕ
depth_over depth [] = depth
depth_over depth (x ∷ xs) = depth_over (max depth (above_zero (pos 0 -ℤ x))) xs

-- in parts
abbrev pub span_in : Average → BracketCert → ℕ
span_in item c = greatest_over (setup_parts item) (map (λ cell. cell.over) c.cells) + depth_over 0 (map (λ cell. cell.over) c.cells)
