-- The average kind on a wide range of positions, where its cost is bounded in whole parts.
use Rattle.std.specs.Prelude.{ℕ, ◌+◌, ◌*◌, ◌^◌, ◌≤◌, max, sum, IsTrue}
use Rattle.decision_model.specs.declared.average.Average.{Average}
use Rattle.decision_model.specs.Average.{IsReadableAverage, HasDemand, IsUnitDemand, average_positions, average_cost_bound}
use Rattle.decision_model.specs.Limits.{most_wide_positions, most_bits, parts}

-- the width number: no whole number that a table of bounds or its check holds is larger than twice this
unfoldable pub wide_width : Average → ℕ
wide_width average =
    4 * average_positions average * parts * (average.setup + average_cost_bound average) * sum average.law ^ max 2 (average.lead + 1)

-- an instance whose average cost may be bounded
pub record IsWideAverage (average : Average) : Type 0 where
  pub readable : IsReadableAverage average
  pub has_demand : HasDemand average.law
  pub unit_demand : IsTrue average.lots → IsUnitDemand average.law
  pub grid : average_positions average ≤ most_wide_positions
  pub width : wide_width average ≤ 2 ^ most_bits
