-- A place of the grid and the next.
use Rattle.std.proofs.Common.{◌≡◌, ℕ, suc, ◌+◌, ◌-◌, ◌/◌, ◌^◌, ◌<◌, ◌≤◌, ℤ, pos, ◌+ℤ◌, List, sum, ◌∙◌, ap, arith}
use Rattle.std.proofs.lemmas.Int.{ints}
use Rattle.std.proofs.Math.Nat.{mul-div_cancel}
use Rattle.decision_model.specs.declared.average.Average.{Average}
use Rattle.least_values.specs.declared.walk.Walk.{Walk}
use Rattle.decision_model.specs.Average.{IsValidAverage, average_positions}
use Rattle.decision_model.specs.Stock.{HasRoom, stock_cost}
use Rattle.decision_model.specs.Walks.{IsWalkOf, place_of, over_of, under_of}
use Rattle.value_cert.specs.AverageValues.{moving, at_place, lead_demand, stock_sum}
use Rattle.average_lemmas.specs.Certified.{moving_some}
use Rattle.average_lemmas.specs.PlaceSizes.{walk_cost, has_room, stock_small}
use Rattle.average_recursion.specs.Rows.{AreTerms, IsPlace}
use Rattle.average_recursion.specs.declared.place.Place.{Place}
use Rattle.average_recursion.specs.declared.terms.Terms.{Terms}
use Rattle.average_recursion.proofs.Numbers.{power_next}

module _ (item : Average) (valid : IsValidAverage item) where
  -- the walk has room at a place
  pub room_at : (place : Place) → IsPlace item place → place.count < average_positions item → (weights : List ℕ) → weights ≡ lead_demand item → HasRoom (over_of place.walk) (under_of place.walk) weights (place_of place.walk)
  room_at place is lt weights e = rw (e, is.walk.is_over, is.walk.is_under, is.stands lt) (has_room item valid place.count lt)

  -- .. and at the next one
  pub room_next : (place : Place) → IsPlace item place → (next : ℕ) → next ≡ place.count + 1 → next < average_positions item → (weights : List ℕ) → weights ≡ lead_demand item → HasRoom (over_of place.walk) (under_of place.walk) weights (place_of place.walk +ℤ pos 1)
  room_next place is next more lt weights e =
      let up : at_place item place.count +ℤ pos 1 ≡ at_place item next = omega (arith, ints, more) in
      rw (e, is.walk.is_over, is.walk.is_under, is.stands (omega (arith, more, lt)), up) (has_room item valid next lt)

  -- the cost of a period there
  pub place_value : (place : Place) → IsPlace item place → place.count < average_positions item → (z : ℤ) → z ≡ stock_cost item.holding item.stockout (lead_demand item) (place_of place.walk)
      → (z ≡ pos (stock_sum item (at_place item place.count))) × (stock_sum item (at_place item place.count) ≤ 2 ^ 119)
  place_value place is lt z e =
      (e ∙ ap (stock_cost item.holding item.stockout (lead_demand item)) (is.stands lt) ∙ walk_cost item (at_place item place.count), stock_small item valid place.count lt)

  -- the next place, whose walk is given
  pub place_next : (terms : Terms) → AreTerms item terms → (place : Place) → IsPlace item place → place.count < average_positions item → (count : ℕ) (walk : Walk) → count ≡ place.count + 1
      → IsWalkOf walk item.holding item.stockout (lead_demand item) → (count < average_positions item → place_of walk ≡ place_of place.walk +ℤ pos 1)
      → IsPlace item (record { count = count; power = place.power / terms.moving; walk = walk })
  place_next terms are place is lt count walk more on up = record {
    within = omega (arith, more, lt);
    power = λ inside. power count more inside;
    walk = on;
    stands = λ inside. up inside ∙ ap (λ z. z +ℤ pos 1) (is.stands lt) ∙ omega (arith, ints, more);
  }
    where
      power : (count : ℕ) → count ≡ place.count + 1 → count < average_positions item → place.power / terms.moving ≡ sum (moving item.law) ^ (average_positions item - suc count)
      power count more inside =
          let next : suc place.count ≡ count = omega (arith, more) in
          (λ i. is.power lt i / are.all_moving i)
          ∙ ap (λ z. z / sum (moving item.law)) (power_next item valid place.count (omega (arith, more, inside)))
          ∙ mul-div_cancel (sum (moving item.law) ^ (average_positions item - suc (suc place.count))) {n = sum (moving item.law)} (omega (arith, moving_some item.law valid.regular.has_demand))
          ∙ ap (λ j. sum (moving item.law) ^ (average_positions item - suc j)) next
