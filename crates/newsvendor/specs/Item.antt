-- What a newsvendor is, as contracts see it.
use Rattle.std.specs.Prelude.{ℕ, ◌+◌, ◌-◌, ◌<◌, ◌≤◌, List, length, sum, slice_index}

pub record NewsvendorItem : Type 0 where
  pub holding : ℕ
  pub stockout : ℕ
  pub law : List ℕ

-- the rates are in range and not both 0, and so are the law's greatest demand, which has a weight, and the sum of its weights
pub record IsNewsvendor (item : NewsvendorItem) : Type 0 where
  pub holding_in_range : item.holding ≤ 1000000
  pub stockout_in_range : item.stockout ≤ 1000000
  pub some_rate : 0 < item.holding + item.stockout
  pub some_demand : 0 < length item.law
  pub greatest_in_range : length item.law ≤ 10001
  pub total_in_range : sum item.law ≤ 1000000000
  pub greatest_has_weight : 0 < slice_index item.law (length item.law - 1)
