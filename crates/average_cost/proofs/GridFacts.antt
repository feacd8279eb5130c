-- The numbers of the grid's places.
use Rattle.std.proofs.Common.{◌≡◌, ℕ, zero, suc, ◌+◌, ◌-◌, ◌*◌, ◌^◌, ◌<◌, ◌≤◌, ℤ, pos, ◌+ℤ◌, List, [], ◌∷◌, sum, drop, slice_index, sym, ◌∙◌, ap, subst, arith, pow-suc}
use Rattle.std.proofs.lemmas.Int.{ints}
use Rattle.std.proofs.Common.{◌≡◌, ℕ, ◌+◌, ◌-◌, ◌*◌, ◌^◌, ◌≤◌, ℤ, pos, ◌+ℤ◌, List, sum, arith, sym, subst, ap, ◌∙◌}
use Rattle.demand_law.specs.WeightedSums.{sum-cons}
use Rattle.decision_model.specs.declared.average.Average.{Average}
use Rattle.decision_model.specs.Average.{IsValidAverage, average_positions}
use Rattle.decision_model.specs.Stock.{HasRoom, stock_cost}
use Rattle.value_cert.specs.AverageValues.{moving, at_place, lead_demand, stock_sum}
use Rattle.decision_model.specs.Walks.{IsWalkOf, place_of, over_of, under_of}
use Rattle.least_values.specs.declared.walk.Walk.{Walk}
use Rattle.average_cost.specs.Grids.{AreTerms, IsPlace}
use Rattle.average_cost.specs.declared.grid.Place.{Place}
use Rattle.average_cost.specs.declared.grid.Terms.{Terms}
use Rattle.average_lemmas.specs.PlaceSizes.{walk_cost, has_room, stock_small, next_power}

-- the weights of the demands that lead below the floor, from one place to the next
pub rest_next : (law : List ℕ) (k : ℕ) → sum (drop k (moving law)) ≡ slice_index law (suc k) + sum (drop (suc k) (moving law))
rest_next [] zero = omega arith
rest_next [] (suc k) = omega arith
rest_next (w ∷ ws) k = within ws k
  where
    within : (ws : List ℕ) (k : ℕ) → sum (drop k ws) ≡ slice_index ws k + sum (drop (suc k) ws)
    within [] zero = omega arith
    within [] (suc k) = omega arith
    within (x ∷ xs) zero = sum-cons x xs
    within (x ∷ xs) (suc k) = within xs k

-- ---- a place and the next
module _ (item : Average) (valid : IsValidAverage item) where
  -- the walk's value is the cost
  pub place_value : (k : ℕ) → k < average_positions item → (place : Place) (z : ℤ) → IsPlace item place k → z ≡ stock_cost item.holding item.stockout (lead_demand item) (place_of place.walk) → (z ≡ pos (stock_sum item (at_place item k))) × (stock_sum item (at_place item k) ≤ 2 ^ 119)
  place_value k lt place z is e =
      (e ∙ ap (stock_cost item.holding item.stockout (lead_demand item)) is.at ∙ walk_cost item (at_place item k), stock_small item valid k lt)

  pub room_here : (k : ℕ) → k < average_positions item → (place : Place) → IsPlace item place (k - 1) → (weights : List ℕ) → weights ≡ lead_demand item → HasRoom (over_of place.walk) (under_of place.walk) weights (place_of place.walk)
  room_here k lt place is weights e = rw (e, is.walk.is_over, is.walk.is_under, is.at) (has_room item valid (k - 1) (omega (arith, lt)))

  pub room_next : (k : ℕ) → 0 < k → k < average_positions item → (place : Place) → IsPlace item place (k - 1) → (weights : List ℕ) → weights ≡ lead_demand item → HasRoom (over_of place.walk) (under_of place.walk) weights (place_of place.walk +ℤ pos 1)
  room_next k some lt place is weights e =
      let next : at_place item (k - 1) +ℤ pos 1 ≡ at_place item k = omega (arith, ints, some) in
      rw (e, is.walk.is_over, is.walk.is_under, is.at, next) (has_room item valid k lt)

  pub step_power : (k : ℕ) → 0 < k → k < average_positions item → (place : Place) → IsPlace item place (k - 1) → (terms : Terms) → AreTerms item terms → place.power * terms.moving ≤ 2 ^ 119
  step_power k some lt place is terms are = rw (is.power, are.all_moving) (next_power item valid (k - 1) (omega (arith, some, lt)))

module _ (item : Average) where
  rest_at : (k : ℕ) → 0 < k → sum (drop (k - 1) (moving item.law)) ≡ slice_index item.law k + sum (drop k (moving item.law))
  rest_at zero some = absurd (omega (arith, some))
  rest_at (suc k) some = ap (λ j. sum (drop j (moving item.law))) (omega arith) ∙ rest_next item.law k

  pub step_rest : (k : ℕ) → 0 < k → (place : Place) → IsPlace item place (k - 1) → (w : ℕ) → w ≡ slice_index item.law k → w ≤ place.rest
  step_rest k some place is w e = omega (arith, e, is.rest, rest_at k some)

  pub place_next : (terms : Terms) → AreTerms item terms → (k : ℕ) → 0 < k → (place : Place) → IsPlace item place (k - 1) → (walk : Walk) → place_of walk ≡ place_of place.walk +ℤ pos 1
      → (weights : List ℕ) → weights ≡ lead_demand item → ((over under : ℕ) → IsWalkOf place.walk over under weights → IsWalkOf walk over under weights) → (w : ℕ) → w ≡ slice_index item.law k
      → IsPlace item (record { walk = walk; power = place.power * terms.moving; rest = place.rest - w }) k
  place_next terms are k some place is walk at weights same stands w e = record {
    walk = subst (λ (ws : List ℕ). IsWalkOf walk item.holding item.stockout ws) same (stands item.holding item.stockout (subst (λ (ws : List ℕ). IsWalkOf place.walk item.holding item.stockout ws) (sym same) is.walk));
    at = at ∙ ap (λ z. z +ℤ pos 1) is.at ∙ omega (arith, ints, some);
    power = rw (is.power, are.all_moving) (power_at k some);
    rest = omega (arith, e, is.rest, rest_at k some);
  }
    where
      power_at : (k : ℕ) → 0 < k → sum (moving item.law) ^ (k - 1) * sum (moving item.law) ≡ sum (moving item.law) ^ k
      power_at zero some = absurd (omega (arith, some))
      power_at (suc j) some = let same : suc j - 1 ≡ j = omega arith in rw same (sym (pow-suc (sum (moving item.law)) j))
