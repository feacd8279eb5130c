-- What lacks at the places of a grid, over all demands.
use Rattle.std.proofs.Common.{◌≡◌, ℕ, ◌+◌, ◌*◌, ◌^◌, ◌≤◌, ℤ, pos, ◌+ℤ◌, ◌-ℤ◌, ◌*ℤ◌, List, length, sum, sym, ◌∙◌, ap, subst, arith}
use Rattle.std.specs.Prelude.{unsigned_abs}
use Rattle.std.proofs.lemmas.Int.{ints}
use Rattle.std.proofs.lemmas.Nat.{mul-le}
use Rattle.demand_law.specs.Law.{greatest_of}
use Rattle.decision_model.specs.Positions.{above_zero}
use Rattle.decision_model.specs.PositionTests.{above_zero_mono}
use Rattle.decision_model.specs.Stock.{HasRoom, stock_cost}
use Rattle.decision_model.specs.Walks.{IsWalkOf, place_of, over_of, under_of}
use Rattle.least_values.specs.declared.walk.Walk.{Walk}
use Rattle.serial_lemmas.specs.Sizes.{size_weighted}
use Rattle.serial_recursion.specs.Rows.{HasValueRoom, place_value, stock_sum, value_at}
use Rattle.serial_recursion.specs.declared.frame.Frame.{Frame}
use Rattle.serial_recursion.specs.declared.rates.Rates.{Rates}
use Rattle.serial_recursion.proofs.Places.{AreWritten}

-- a walk stands at a place of the grid, and the first cells have their values
pub record IsWalking (frame : Frame) (rates : Rates) (weights : List ℕ) (costs : List ℤ) (level : ℕ) (base : ℤ) (walk : Walk) (old cells : List ℤ) (place : ℕ) : Type 0 where
  pub is_base : base ≡ stock_cost 0 1 weights frame.low
  pub is_walk : IsWalkOf walk 0 1 weights
  pub stands : place_of walk ≡ frame.low +ℤ pos place
  pub written : AreWritten (λ k z. z ≡ place_value frame rates weights costs level (value_at old k) k) (λ k z. z ≡ value_at old k) frame.count (length old) cells place

-- how far the greatest demand is from a position
far : (size d : ℕ) (y : ℤ) → d ≤ size → size ≤ 2 ^ 28 → unsigned_abs y ≤ 600000000 → above_zero (pos d -ℤ y) ≤ 2 ^ 30
far size d y le few near = above_zero_mono (pos d -ℤ y) (pos (2 ^ 30)) (omega (arith, ints, le, few, near))

-- a position near 0 leaves room for what lacks there
pub room_at : (weights : List ℕ) (y : ℤ) → length weights ≤ 2 ^ 28 → sum weights ≤ 2 ^ 30 → unsigned_abs y ≤ 600000000 → HasRoom 0 1 weights y
room_at weights y few total near = record {
  near = omega (arith, near);
  small = omega (arith, fits);
}
  where
    fits : sum weights * (0 * above_zero y + 1 * above_zero (pos (greatest_of weights) -ℤ y)) ≤ 2 ^ 60
    fits = omega (arith, mul-le (sum weights) (0 * above_zero y + 1 * above_zero (pos (greatest_of weights) -ℤ y)) (2 ^ 30) (2 ^ 30) total (omega (arith, far (length weights) (greatest_of weights) y (omega arith) few near)))

-- little lacks there
pub lacks_small : (weights : List ℕ) (y : ℤ) → length weights ≤ 2 ^ 28 → sum weights ≤ 2 ^ 30 → unsigned_abs y ≤ 600000000 → unsigned_abs (stock_cost 0 1 weights y) ≤ 2 ^ 62
unfolding stock_cost
lacks_small weights y few total near =
    let each = size_weighted weights (λ d. pos (0 * above_zero (y -ℤ pos d) + 1 * above_zero (pos d -ℤ y))) (2 ^ 30) (λ d lt. omega (arith, ints, far (length weights) d y (omega (arith, lt)) few near)) in
    omega (arith, each, mul-le (sum weights) (2 ^ 30) (2 ^ 30) (2 ^ 30) total (omega arith))

-- a place of the grid is near 0
pub place_near : (frame : Frame) (place : ℕ) → unsigned_abs frame.low ≤ 2 ^ 28 → frame.count ≤ 2 ^ 28 → place ≤ frame.count + 1 → unsigned_abs (frame.low +ℤ pos place) ≤ 600000000
place_near frame place low few le = omega (arith, ints, low, few, le)

-- the walk's numbers at a place of the grid
module _ (frame : Frame) (rates : Rates) (weights : List ℕ) (room : HasValueRoom frame rates weights) where
  pub near : (place : ℕ) → place ≤ frame.count + 1 → unsigned_abs (frame.low +ℤ pos place) ≤ 600000000
  near place le = place_near frame place room.low_near room.count_few le

  pub place_room : (place : ℕ) → place ≤ frame.count + 1 → HasRoom 0 1 weights (frame.low +ℤ pos place)
  place_room place le = room_at weights (frame.low +ℤ pos place) room.demands_few (omega (arith, room.total, room.is_total)) (near place le)

  pub place_lacks : (place : ℕ) → place ≤ frame.count + 1 → unsigned_abs (stock_cost 0 1 weights (frame.low +ℤ pos place)) ≤ 2 ^ 62
  place_lacks place le = lacks_small weights (frame.low +ℤ pos place) room.demands_few (omega (arith, room.total, room.is_total)) (near place le)

  pub base_lacks : unsigned_abs (stock_cost 0 1 weights frame.low) ≤ 2 ^ 62
  base_lacks = lacks_small weights frame.low room.demands_few (omega (arith, room.total, room.is_total)) (omega (arith, room.low_near))

  -- the room of a walk with its own rates
  pub walk_room : (walk : Walk) (place : ℕ) (y : ℤ) → IsWalkOf walk 0 1 weights → y ≡ frame.low +ℤ pos place → place ≤ frame.count + 1 → HasRoom (over_of walk) (under_of walk) weights y
  walk_room walk place y is at le =
      subst (λ over. HasRoom over (under_of walk) weights y) (sym is.is_over)
      (subst (λ under. HasRoom 0 under weights y) (sym is.is_under)
      (subst (HasRoom 0 1 weights) (sym at) (place_room place le)))

  -- the stock of a place from the walk's numbers
  pub sum_told : (base lacks : ℤ) (place : ℕ) → base ≡ stock_cost 0 1 weights frame.low → lacks ≡ stock_cost 0 1 weights (frame.low +ℤ pos place)
      → pos rates.holding *ℤ (pos (frame.total * place) -ℤ base) +ℤ pos rates.lacking *ℤ lacks ≡ stock_sum frame rates weights place
  sum_told base lacks place is_base is_lacks =
      ap (λ b. pos rates.holding *ℤ (pos (frame.total * place) -ℤ b) +ℤ pos rates.lacking *ℤ lacks) is_base
      ∙ ap (λ z. pos rates.holding *ℤ (pos (frame.total * place) -ℤ stock_cost 0 1 weights frame.low) +ℤ pos rates.lacking *ℤ z) is_lacks
