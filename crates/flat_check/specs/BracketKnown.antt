-- What a check of a bracket knows of the lines so far.
use Rattle.std.specs.Prelude.{◌≡◌, ℕ, take}
use Rattle.bracket_lemmas.specs.CheckRows.{AreRaised}
use Rattle.bracket_terms.specs.Known.{item_of}
use Rattle.decision_model.specs.Average.{average_positions}
use Rattle.decision_model.specs.declared.average.Average.{Average}
use Rattle.value_cert.specs.BracketRules.{FirstCells}
use Rattle.value_cert.specs.BracketValues.{most_over}
use Rattle.flat_check.specs.declared.bracket_cells.BracketCells.{BracketCells}

abbrev pub instance_of : BracketCells → Average
instance_of cells = item_of cells.terms

abbrev pub count_of : BracketCells → ℕ
count_of cells = cells.count

-- the lines so far have named these
pub record KnowsCells (cells : BracketCells) (first : FirstCells) : Type 0 where
  pub lower_is : cells.lower ≡ first.lower
  pub upper_is : cells.upper ≡ first.upper
  pub low_is : cells.low ≡ first.low
  pub high_is : cells.high ≡ first.high
  pub under_are : take cells.count cells.under.items ≡ first.under
  pub over_are : AreRaised (most_over (instance_of cells) (average_positions (instance_of cells))) (take cells.count cells.over.items) first.over
