-- What a walk over positions stands for.
use Rattle.std.specs.Prelude.{◌≡◌, ℕ, ℤ, List, sum}
use Rattle.least_values.specs.Stock.{stock_cost, upto}
use Rattle.least_values.specs.declared.walk.Walk.{Walk}

-- a walk's position, and its two rates
abbrev pub place_of : Walk → ℤ
place_of walk = walk.at

abbrev pub over_of : Walk → ℕ
over_of walk = walk.over

abbrev pub under_of : Walk → ℕ
under_of walk = walk.under

-- the walk stands at a position of these weights, with its cost
pub record IsWalkOf (walk : Walk) (over under : ℕ) (weights : List ℕ) : Type 0 where
  pub is_over : walk.over ≡ over
  pub is_under : walk.under ≡ under
  pub is_total : walk.total ≡ sum weights
  pub is_upto : walk.upto ≡ upto weights walk.at
  pub is_cost : walk.value ≡ stock_cost over under weights walk.at

-- the same with its own rates
abbrev pub IsWalk : Walk → List ℕ → Type 0
IsWalk walk weights = IsWalkOf walk walk.over walk.under weights
