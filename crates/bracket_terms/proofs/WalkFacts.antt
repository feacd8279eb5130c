-- The costs of the grid's places.
use Rattle.std.proofs.Common.{◌≡◌, ℕ, suc, ◌-◌, ◌*◌, ◌/◌, ◌^◌, ◌<◌, ◌≤◌, ℤ, pos, ◌+ℤ◌, List, length, map, slice_index, sum, subst, ap, ◌∙◌, arith}
use Rattle.std.specs.Int.{div_ceil}
use Rattle.std.specs.List.{range_with_len}
use Rattle.std.proofs.lemmas.List.FromFn.{get_or-map-range_with_len, length-map-range_with_len}
use Rattle.decision_model.specs.Limits.{parts}
use Rattle.value_cert.specs.BracketValues.{low_cost, up_cost}
use Rattle.std.proofs.lemmas.Int.{ints}
use Rattle.std.specs.Prelude.{unsigned_abs}
use mir.Syntax.{w64}
use Rattle.std.proofs.Common.{to_z, of_z, ◌≤ℤ◌}
use Rattle.decision_model.specs.declared.average.Average.{Average}
use Rattle.model_terms.specs.declared.limits.TheConstants.{LEAST_POSITION, MOST_POSITION}
use Rattle.decision_model.specs.Average.{average_positions}
use Rattle.decision_model.specs.Stock.{HasRoom, stock_cost}
use Rattle.decision_model.specs.Walks.{place_of, over_of, under_of}
use Rattle.least_values.specs.declared.walk.Walk.{Walk}
use Rattle.value_cert.specs.AverageValues.{at_place, lead_demand, stock_sum}
use Rattle.average_lemmas.specs.PlaceSizes.{walk_cost, near_back}
use Rattle.bracket_terms.specs.Grids.{IsAt}
use Rattle.decision_model.specs.WideAverage.{IsWideAverage}
use Rattle.bracket_lemmas.specs.WideSizes.{some_place, has_room, stock_fits}

module _ (item : Average) (wide : IsWideAverage item) where
  -- the walk's value is the cost
  pub place_value : (k : ℕ) → k < average_positions item → (walk : Walk) (z : ℤ) → IsAt item walk k → z ≡ stock_cost item.holding item.stockout (lead_demand item) (place_of walk) → (z ≡ pos (stock_sum item (at_place item k))) × (stock_sum item (at_place item k) ≤ 2 ^ 119)
  place_value k lt walk z is e =
      (e ∙ ap (stock_cost item.holding item.stockout (lead_demand item)) is.at ∙ walk_cost item (at_place item k), omega (arith, stock_fits item wide k lt))

  pub room_here : (k : ℕ) → k < average_positions item → (walk : Walk) → IsAt item walk (k - 1) → (weights : List ℕ) → weights ≡ lead_demand item → HasRoom (over_of walk) (under_of walk) weights (place_of walk)
  room_here k lt walk is weights e = rw (e, is.walk_of.is_over, is.walk_of.is_under, is.at) (has_room item wide (k - 1) (omega (arith, lt)))

  pub room_next : (k : ℕ) → 0 < k → k < average_positions item → (walk : Walk) → IsAt item walk (k - 1) → (weights : List ℕ) → weights ≡ lead_demand item → HasRoom (over_of walk) (under_of walk) weights (place_of walk +ℤ pos 1)
  room_next k some lt walk is weights e =
      let next : at_place item (k - 1) +ℤ pos 1 ≡ at_place item k = omega (arith, ints, some) in
      rw (e, is.walk_of.is_over, is.walk_of.is_under, is.at, next) (has_room item wide k lt)

  -- a walk has room at the floor
  pub room_first : (weights : List ℕ) → weights ≡ lead_demand item → HasRoom item.holding item.stockout weights (to_z w64 (of_z w64 item.floor))
  room_first weights e =
      let room = has_room item wide 0 (omega (arith, some_place item wide)) in
      let floor : at_place item 0 ≡ item.floor = omega (arith, ints) in
      let back = near_back item.floor (near item.floor wide.readable.floor.least wide.readable.floor.most) in
      rw (e, back) (subst (λ (y : ℤ). HasRoom item.holding item.stockout (lead_demand item) y) floor room)
    where
      near : (z : ℤ) → LEAST_POSITION ≤ℤ z → z ≤ℤ MOST_POSITION → unsigned_abs z ≤ 1000000000
      near z low high = omega (arith, ints, low, high)

-- a cost in parts, rounded down
pub low_told : (item : Average) (k cost unit : ℕ) → cost ≡ parts * stock_sum item (at_place item k) → unit ≡ sum item.law ^ suc item.lead → cost / unit ≡ low_cost item k
unfolding low_cost
low_told item k cost unit c u = λ i. c i / u i

-- .. and rounded up
pub up_told : (item : Average) (k cost unit up : ℕ) → cost ≡ parts * stock_sum item (at_place item k) → unit ≡ sum item.law ^ suc item.lead → up ≡ div_ceil cost unit → up ≡ up_cost item k
unfolding up_cost
up_told item k cost unit up c u is = is ∙ (λ i. div_ceil (c i) (u i))

-- the listed costs
pub count_costs : (cost : ℕ → ℕ) (n : ℕ) (xs : List ℕ) → xs ≡ map cost (range_with_len 0 n) → length xs ≡ n
count_costs cost n xs e = ap length e ∙ length-map-range_with_len cost 0 n

pub listed_cost : (cost : ℕ → ℕ) (n : ℕ) (xs : List ℕ) → xs ≡ map cost (range_with_len 0 n) → (k : ℕ) → k < n → slice_index xs k ≡ cost k
listed_cost cost n xs e k lt = ap (λ (ys : List ℕ). slice_index ys k) e ∙ get_or-map-range_with_len cost 0 n k k 0 lt (omega arith)
