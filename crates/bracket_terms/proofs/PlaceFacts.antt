-- The floor, as it is read back.
use Rattle.std.proofs.Common.{◌≡◌, ◌≤◌, ℤ, ◌≤ℤ◌, to_z, of_z, arith}
use Rattle.std.specs.Prelude.{unsigned_abs}
use Rattle.std.proofs.lemmas.Int.{ints}
use mir.Syntax.{w64}
use Rattle.decision_model.specs.declared.average.Average.{Average}
use Rattle.model_terms.specs.declared.limits.TheConstants.{LEAST_POSITION, MOST_POSITION}
use Rattle.decision_model.specs.WideAverage.{IsWideAverage}
use Rattle.average_lemmas.specs.PlaceSizes.{near_back}

near : (z : ℤ) → LEAST_POSITION ≤ℤ z → z ≤ℤ MOST_POSITION → unsigned_abs z ≤ 1000000
near z low high = omega (arith, ints, low, high)

module _ (item : Average) (wide : IsWideAverage item) where
  pub floor_near : unsigned_abs item.floor ≤ 1000000
  floor_near = near item.floor wide.readable.floor.least wide.readable.floor.most

  pub floor_back : to_z w64 (of_z w64 item.floor) ≡ item.floor
  floor_back = near_back item.floor (omega (arith, floor_near))
