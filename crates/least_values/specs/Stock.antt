-- The cost of what is left of a position and of what lacks, over a list of weights of demands.
use Rattle.std.specs.Prelude.{ℕ, ◌+◌, ◌*◌, ◌^◌, ◌<◌, ◌≤◌, ℤ, pos, negsuc, ◌+ℤ◌, ◌-ℤ◌, List, length, sum, take, slice_index, unsigned_abs}
use Rattle.demand_law.specs.Law.{weighted, greatest_of}
use Rattle.model_terms.specs.Positions.{above_zero}

-- what a position costs at a demand: each unit that is left, and each that lacks
abbrev pub cost_at : ℕ → ℕ → ℤ → ℕ → ℕ
cost_at over under y d = over * above_zero (y -ℤ pos d) + under * above_zero (pos d -ℤ y)

-- the cost of a position over all demands, times the sum of the weights
unfoldable pub stock_cost : ℕ → ℕ → List ℕ → ℤ → ℤ
stock_cost over under weights y = weighted weights (λ d. pos (cost_at over under y d))

-- the sum of the weights of the demands up to a position
abbrev pub upto : List ℕ → ℤ → ℕ
upto weights y = sum (take (above_zero (y +ℤ pos 1)) weights)

-- the weight of the demand that a position is; 0 where it is none
abbrev pub weight_at : List ℕ → ℤ → ℕ
weight_at weights (pos d) = slice_index weights d
weight_at weights (negsuc d) = 0

-- a position whose numbers fit
pub record HasRoom (over under : ℕ) (weights : List ℕ) (y : ℤ) : Type 0 where
  pub near : unsigned_abs y ≤ 1000000000
  pub small : sum weights * (over * above_zero y + under * above_zero (pos (greatest_of weights) -ℤ y)) ≤ 2 ^ 126

-- weights of which there are some, not too many
pub record AreWeights (weights : List ℕ) : Type 0 where
  pub some : 0 < length weights
  pub few : length weights ≤ 4000000001
  pub fits : sum weights ≤ 2 ^ 120
