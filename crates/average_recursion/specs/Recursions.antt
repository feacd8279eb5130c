-- What the lines so far have named.
use Rattle.std.specs.Prelude.{◌≡◌, ℕ, List, ℤ, length, slice_index}
use Rattle.decision_model.specs.declared.average.Average.{Average}
use Rattle.value_cert.specs.AverageRules.{FirstPoints}
use Rattle.value_cert.specs.AverageValues.{Ratio}
use Rattle.average_recursion.specs.Rows.{ratio_of}
use Rattle.average_recursion.specs.Entries.{entry_at, AreEntries}
use Rattle.average_recursion.specs.declared.points.Points.{Points}

-- the instance that it is of
abbrev pub average_of : Points → Average
average_of points = points.average.now

-- how many positions have entries so far
abbrev pub count_of : Points → ℕ
count_of points = points.place.count

-- the sum of the weights of the demands above 0, once for each position above the next one
abbrev pub power_of : Points → ℕ
power_of points = points.place.power

-- the average cost
abbrev pub gain_of : Points → Ratio
gain_of points = ratio_of points.gain

-- the tables hold what the lines name
pub record KnowsTables (average : Average) (g : Ratio) (low high : ℤ) (count : ℕ) (lower upper : List ℤ) (first : FirstPoints) : Type 0 where
  pub g_is : g ≡ first.g
  pub low_is : low ≡ first.low
  pub high_is : high ≡ first.high
  pub lower_many : count ≡ length first.lower
  pub upper_many : count ≡ length first.upper
  pub lower_are : AreEntries average count (entry_at lower) (slice_index first.lower)
  pub upper_are : AreEntries average count (entry_at upper) (slice_index first.upper)

-- the lines so far have named these
abbrev pub KnowsPoints : Points → FirstPoints → Type 0
KnowsPoints points first = KnowsTables points.average.now (ratio_of points.gain) points.low points.high points.place.count points.lower.now points.upper.now first
