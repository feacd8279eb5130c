-- The average kind: ranges, demand, the grid of positions and the width number.
use Rattle.std.specs.Prelude.{ℕ, ◌+◌, ◌-◌, ◌*◌, ◌^◌, ◌<◌, ◌≤◌, List, slice_index, sum, pos, ◌-ℤ◌, ◌≤ℤ◌, IsTrue, Bool, nat_lt, nat_le}
use Rattle.demand_law.specs.Law.{greatest_of}
use Rattle.decision_model.specs.declared.average.Average.{Average}
use Rattle.decision_model.specs.Limits.{most_lead, most_setup, most_positions, most_bits}
use Rattle.decision_model.specs.declared.kinds.Kind.TheVariants as kind
use Rattle.decision_model.specs.Rules.{Rules}
use Rattle.decision_model.specs.Rates.{IsRate}
use Rattle.decision_model.specs.DemandLaws.{IsDemandLaw}
use Rattle.decision_model.specs.Positions.{IsPosition, above_zero, positions_from}

-- numbers in range
pub record IsReadableAverage (average : Average) : Type 0 where
  pub lead : average.lead ≤ most_lead
  pub setup : average.setup ≤ most_setup
  pub holding : IsRate average.holding
  pub stockout : IsRate average.stockout
  pub law : IsDemandLaw average.law
  pub floor : IsPosition average.floor
  pub cap : IsPosition average.cap
  pub floor_below : average.floor ≤ℤ average.cap

-- not all weight is on demand 0
abbrev pub HasDemand : List ℕ → Type 0
HasDemand law = slice_index law 0 < sum law

abbrev pub has_demand : List ℕ → Bool
has_demand law = nat_lt (slice_index law 0) (sum law)

-- no demand is above 1
abbrev pub IsUnitDemand : List ℕ → Type 0
IsUnitDemand law = greatest_of law ≤ 1

abbrev pub is_unit_demand : List ℕ → Bool
is_unit_demand law = nat_le (greatest_of law) 1

-- how many positions the grid has
unfoldable pub average_positions : Average → ℕ
average_positions average = positions_from average.floor average.cap

-- the most that a unit can lack: all demand of an order's periods at the floor
abbrev pub average_most_lacking : Average → ℕ
average_most_lacking average = above_zero (pos ((average.lead + 1) * greatest_of average.law) -ℤ average.floor)

-- a whole number above each cost of a period, its setup cost aside
unfoldable pub average_cost_bound : Average → ℕ
average_cost_bound average = 1 + average.holding * above_zero average.cap + average.stockout * average_most_lacking average

-- the width number: no whole number that a table, a certificate or its check holds is larger
unfoldable pub average_width : Average → ℕ
average_width average =
    let n = average_positions average in
    let weights = sum average.law in
    2 * n ^ 2 * (average.setup + average_cost_bound average)
    * weights ^ (2 * average.lead + 2)
    * (weights - slice_index average.law 0) ^ (2 * n - 2)

-- all rules but that on the width number
pub record IsRegularAverage (average : Average) : Type 0 where
  pub readable : IsReadableAverage average
  pub has_demand : HasDemand average.law
  pub unit_demand : IsTrue average.lots → IsUnitDemand average.law
  pub grid : average_positions average ≤ most_positions

pub record IsValidAverage (average : Average) : Type 0 where
  pub regular : IsRegularAverage average
  pub width : average_width average ≤ 2 ^ most_bits

abbrev pub average_rules : Average → Rules
average_rules average = record {
  kind = kind.Average;
  readable = IsReadableAverage average;
  grid = average_positions average ≤ most_positions;
  grid_test = nat_le (average_positions average) most_positions;
  width = average_width average ≤ 2 ^ most_bits;
  width_test = nat_le (average_width average) (2 ^ most_bits);
  regular = IsRegularAverage average;
  valid = IsValidAverage average;
}
