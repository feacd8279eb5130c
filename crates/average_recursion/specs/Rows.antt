-- What is kept beside the entries.
use Rattle.std.specs.Prelude.{◌≡◌, ℕ, suc, ◌-◌, ◌*◌, ◌^◌, ◌<◌, ◌≤◌, ℤ, List, length, sum}
use Rattle.decision_model.specs.declared.average.Average.{Average}
use Rattle.decision_model.specs.Average.{average_positions}
use Rattle.decision_model.specs.Walks.{IsWalkOf, place_of}
use Rattle.value_cert.specs.AverageValues.{Ratio, moving, at_place, lead_demand, greatest_den, greatest_num}
use Rattle.average_recursion.specs.Tables.{sums_needed}
use Rattle.average_recursion.specs.declared.gain.Gain.{Gain}
use Rattle.average_recursion.specs.declared.place.Place.{Place}
use Rattle.average_recursion.specs.declared.terms.Terms.{Terms}

-- how many cells and sums the tables have
pub record AreTables (average : Average) (lower upper : List ℤ) (sums : List ℕ) : Type 0 where
  pub are_lower : length lower ≡ average_positions average
  pub are_upper : length upper ≡ average_positions average
  pub are_sums : length sums ≡ sums_needed average

-- the terms of an instance
pub record AreTerms (average : Average) (terms : Terms) : Type 0 where
  pub positions : terms.positions ≡ average_positions average
  pub all_moving : terms.moving ≡ sum (moving average.law)
  pub weights : terms.weights ≡ sum average.law ^ average.lead
  pub unit : terms.unit ≡ sum average.law ^ suc average.lead
  pub last : terms.last ≡ sum (moving average.law) ^ (average_positions average - 1)

-- the numbers of an average cost are in range
pub record IsSmallRatio (average : Average) (g : Ratio) : Type 0 where
  pub den_small : g.den ≤ greatest_den average (average_positions average)
  pub num_small : g.num ≤ greatest_num average g.den

abbrev pub ratio_of : Gain → Ratio
ratio_of gain = record { num = gain.num; den = gain.den }

-- the setup cost below the floor, over the denominator of the position before the last one
unfoldable pub value_below : Average → Ratio → ℕ
value_below average g = average.setup * g.den * sum average.law ^ average.lead * sum (moving average.law) ^ (average_positions average - 1)

-- an average cost in range, and what it brings to the equations over the denominator of the last position
pub record IsGain (average : Average) (gain : Gain) : Type 0 where
  pub small : IsSmallRatio average (ratio_of gain)
  pub stock : gain.stock ≡ gain.den * sum (moving average.law) ^ (average_positions average - 1)
  pub below : gain.below ≡ value_below average (ratio_of gain)
  pub loss : gain.loss ≡ gain.num * (sum average.law ^ suc average.lead * sum (moving average.law) ^ (average_positions average - 1))

-- the numbers of a position of the grid, or of that behind the last one
pub record IsPlace (average : Average) (place : Place) : Type 0 where
  pub within : place.count ≤ average_positions average
  pub power : place.count < average_positions average → place.power ≡ sum (moving average.law) ^ (average_positions average - suc place.count)
  pub walk : IsWalkOf place.walk average.holding average.stockout (lead_demand average)
  pub stands : place.count < average_positions average → place_of place.walk ≡ at_place average place.count
