-- What `solve` prints of finite horizons. A certificate has its periods from the last to the first, and the positions of
-- each from the highest down; they are printed the other way.
use Rattle.std.specs.Prelude.{ℕ, int_lt, if◌then◌else◌, List, [], ◌++◌, codes, decimal, reverse}
use Rattle.std.specs.Fmt.{signed_decimal}
use Rattle.std.specs.List.{flat_map}
use Rattle.value_cert.specs.declared.finite.FiniteCell.{FiniteCell}
use Rattle.value_cert.specs.declared.finite.FiniteRow.{FiniteRow}
use Rattle.finite_ss.specs.Shapes.{shape_of}
use Rattle.finite_ss.specs.declared.shapes.Shape.{Shape}
use Rattle.finite_ss.specs.declared.shapes.Shape.TheVariants.{Pair, Never, Table}

-- the line of a position, if it orders
abbrev pub move_line : FiniteCell → List ℕ
move_line cell = if int_lt cell.at cell.to then codes "at " ++ signed_decimal cell.at ++ codes " to " ++ signed_decimal cell.to ++ codes "\n" else []

-- a line for each position that orders, from the lowest up
abbrev pub move_lines : List FiniteCell → List ℕ
move_lines cells = flat_map move_line (reverse cells)

-- what follows the number of a period: its shape, and in a table the positions that order
abbrev pub shape_text : Shape → List FiniteCell → List ℕ
shape_text (Pair low high) cells = codes " s " ++ signed_decimal low ++ codes " S " ++ signed_decimal high ++ codes "\n"
shape_text Never cells = codes " never\n"
shape_text Table cells = codes " table\n" ++ move_lines cells

-- the lines of a period, by its cells
abbrev pub period_lines : ℕ → List FiniteCell → List ℕ
period_lines period cells = codes "period " ++ decimal period ++ shape_text (shape_of cells) cells

-- the lines of a row
abbrev pub row_lines : FiniteRow → List ℕ
row_lines row = period_lines row.period row.cells

-- the lines of all periods, from the first to the last
abbrev pub rows_lines : List FiniteRow → List ℕ
rows_lines rows = flat_map row_lines (reverse rows)

-- the shape of each period
abbrev pub shapes_lines : List FiniteRow → List ℕ
shapes_lines rows = codes "kind finite\n" ++ rows_lines rows
