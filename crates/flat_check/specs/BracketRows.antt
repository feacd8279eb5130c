-- What the rules of a bracket's certificate know of the lines so far.
use Rattle.std.specs.Prelude.{◌≡◌, ℕ, List}
use Rattle.decision_model.specs.declared.average.Average.{Average}
use Rattle.line_text.specs.Rules.{known_of}
use Rattle.value_cert.specs.BracketRules.{FirstCells, bracket_rules}
use Rattle.value_cert.specs.declared.flat_line.FlatLine.{FlatLine}
use Rattle.flat_check.specs.BracketKnown.{KnowsCells, instance_of}
use Rattle.flat_check.specs.declared.bracket_lines.BracketLines.{BracketLines}
use Rattle.flat_check.specs.declared.bracket_lines.NextRow.{NextRow}
use Rattle.flat_check.specs.declared.bracket_lines.NextRow.TheVariants.{Bounds, Pair, Cell}

-- how many of the rows that come once stand before it
abbrev pub rows_before : NextRow → ℕ
rows_before Bounds = 0
rows_before Pair = 1
rows_before Cell = 2

-- the lines so far have named these
pub record KnowsRows (lines : BracketLines) (first : FirstCells) : Type 0 where
  pub rows : rows_before lines.next ≡ first.rows
  pub cells : KnowsCells lines.cells first

-- the rules are those of this instance, and know what the lines name
pub record KnowsBracket (lines : BracketLines) (average : Average) (before : List FlatLine) : Type 0 where
  pub average_is : instance_of lines.cells ≡ average
  pub rows : KnowsRows lines (known_of (bracket_rules average) before)
