-- The laws that the sums hold.
use Rattle.std.specs.Prelude.{◌≡◌, ℕ, ◌+◌, ◌*◌, ◌≤◌, List, length, take, drop}
use Rattle.demand_law.specs.Law.{greatest_of}
use Rattle.decision_model.specs.declared.average.Average.{Average}
use Rattle.value_cert.specs.AverageValues.{moving, lead_demand}
use Rattle.finite_recursion.specs.Demands.{AreDemandsOf}
use Rattle.average_recursion.specs.declared.laws.HeldLaws.{HeldLaws}

-- the sums hold the law of the lead time, and behind it the demands above 0
pub record HoldsLaws (average : Average) (laws : HeldLaws) (sums : List ℕ) : Type 0 where
  pub half : laws.half ≡ (average.lead + 1) * greatest_of average.law + 1
  pub lead_within : laws.lead ≤ laws.half
  pub lead : take laws.lead sums ≡ lead_demand average
  pub listed_within : laws.half + laws.listed ≤ length sums
  pub listed : AreDemandsOf (moving average.law) (take laws.listed (drop laws.half sums))
