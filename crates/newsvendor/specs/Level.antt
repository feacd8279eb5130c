-- The optimal level of a newsvendor.
use Rattle.std.specs.Prelude.{ℕ, ℤ}
use Rattle.newsvendor.specs.Item.{NewsvendorItem}
use Rattle.newsvendor.specs.Cost.{level_cost}
use Rattle.newsvendor.specs.Least.{IsFirstLeast}

-- the expected cost of a level, times the sum of the weights
abbrev pub cost_of : NewsvendorItem → ℕ → ℤ
cost_of item q = level_cost item.holding item.stockout item.law q

-- no level costs less than q, and each lower one costs more
abbrev pub LeastLevel : NewsvendorItem → ℕ → Type 0
LeastLevel item q = IsFirstLeast (cost_of item) q
