-- How much room the tables take.
use Rattle.std.specs.Prelude.{ℕ, ◌*◌}
use Rattle.demand_law.specs.Law.{greatest_of}
use Rattle.decision_model.specs.declared.average.Average.{Average}
use Rattle.decision_model.specs.Average.{average_positions}
use Rattle.finite_recursion.specs.Tables.{lead_sums}

-- two tables over the grid
abbrev pub cells_needed : Average → ℕ
cells_needed average = 2 * average_positions average

abbrev pub sums_needed : Average → ℕ
sums_needed average = lead_sums average.lead (greatest_of average.law)
