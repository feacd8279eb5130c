-- The costs of the places, and a walk over them.
use Rattle.std.specs.Prelude.{◌≡◌, ℕ, map}
use Rattle.std.specs.List.{range_with_len}
use Rattle.decision_model.specs.declared.average.Average.{Average}
use Rattle.decision_model.specs.Walks.{IsWalkOf, place_of}
use Rattle.least_values.specs.declared.walk.Walk.{Walk}
use Rattle.value_cert.specs.AverageValues.{at_place, lead_demand}
use Rattle.value_cert.specs.BracketValues.{low_cost, up_cost}
use Rattle.bracket_terms.specs.declared.grid.Costs.{Costs}

-- the walk stands at a place
pub record IsAt (item : Average) (walk : Walk) (k : ℕ) : Type 0 where
  pub walk_of : IsWalkOf walk item.holding item.stockout (lead_demand item)
  pub at : place_of walk ≡ at_place item k

-- the costs of the first places
pub record AreCosts (item : Average) (k : ℕ) (costs : Costs) : Type 0 where
  pub are_low : costs.low.items ≡ map (low_cost item) (range_with_len 0 k)
  pub are_up : costs.up.items ≡ map (up_cost item) (range_with_len 0 k)
