-- What a check of a bracket keeps.
use Rattle.std.specs.Prelude.{◌≡◌, ℕ, ◌*◌, ◌<◌, ◌≤◌, List, length, slice_index}
use Rattle.decision_model.specs.declared.average.Average.{Average}
use Rattle.decision_model.specs.Average.{average_positions}
use Rattle.value_cert.specs.BracketValues.{setup_parts, most_bound, most_over}

-- both bounds are in range
pub record AreBounds (average : Average) (lower upper : ℕ) : Type 0 where
  pub lower_small : lower ≤ most_bound average
  pub upper_small : upper ≤ most_bound average

-- two tables over the grid, of which the first places have entries that were taken
pub record AreTables (average : Average) (count : ℕ) (under over : List ℕ) : Type 0 where
  pub all_under : length under ≡ average_positions average
  pub all_over : length over ≡ average_positions average
  pub within : count ≤ average_positions average
  pub under_small : (j : ℕ) → j < count → slice_index under j ≤ setup_parts average
  pub over_small : (j : ℕ) → j < count → slice_index over j ≤ 2 * most_over average (average_positions average)
