-- What the equations take of an instance, and of each place of the grid.
use Rattle.std.specs.Prelude.{◌≡◌, ℕ, suc, ◌-◌, ◌*◌, ◌^◌, min, length, sum, drop}
use Rattle.decision_model.specs.declared.average.Average.{Average}
use Rattle.decision_model.specs.Average.{average_positions}
use Rattle.decision_model.specs.Walks.{IsWalkOf, place_of}
use Rattle.value_cert.specs.AverageValues.{moving, at_place, lead_demand}
use Rattle.average_cost.specs.Moves.{moves_upto}
use Rattle.average_cost.specs.declared.grid.Place.{Place}
use Rattle.average_cost.specs.declared.grid.Terms.{Terms}

-- the terms of an instance
pub record AreTerms (item : Average) (terms : Terms) : Type 0 where
  pub moves : terms.moves.items ≡ moves_upto item.law (sum (moving item.law)) (min (average_positions item - 1) (length item.law - 1))
  pub lead : terms.lead ≡ lead_demand item
  pub all_moving : terms.moving ≡ sum (moving item.law)
  pub unit : terms.unit ≡ sum item.law ^ suc item.lead
  pub below : terms.below ≡ item.setup * sum item.law ^ item.lead
  pub count : terms.count ≡ average_positions item

-- the numbers of place k
pub record IsPlace (item : Average) (place : Place) (k : ℕ) : Type 0 where
  pub walk : IsWalkOf place.walk item.holding item.stockout (lead_demand item)
  pub at : place_of place.walk ≡ at_place item k
  pub power : place.power ≡ sum (moving item.law) ^ k
  pub rest : place.rest ≡ sum (drop k (moving item.law))
