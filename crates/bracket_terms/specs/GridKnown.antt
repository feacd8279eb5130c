-- The instance of a grid.
use Rattle.decision_model.specs.declared.average.Average.{Average}
use Rattle.decision_model.specs.WideAverage.{IsWideAverage}
use Rattle.bracket_terms.specs.WideKnown.{wide_known}
use Rattle.bracket_terms.specs.declared.grid.Grid.{Grid}

abbrev pub grid_item : Grid → Average
grid_item grid = grid.item.now

-- its cost may be bounded
pub grid_wide : (grid : Grid) → IsWideAverage (grid_item grid)
grid_wide grid = wide_known grid.item.now grid.wide
