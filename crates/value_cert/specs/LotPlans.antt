-- Lot plans and their costs. Periods are places of lists, from 0.
use Rattle.std.specs.Prelude.{◌≡◌, ℕ, ◌+◌, ◌-◌, ◌*◌, ◌≤◌, List, length, slice_index, sum, take, drop, ◌==◌, if◌then◌else◌}
use Rattle.std.specs.List.{range_with_len, sum_by}
use Rattle.decision_model.specs.declared.lots.LotSize.{LotSize}

-- the demand of the first periods
abbrev pub demand_upto : LotSize → ℕ → ℕ
demand_upto item periods = sum (take periods item.demand)

-- what is left of the orders at the end of a period
abbrev pub stock_after : LotSize → List ℕ → ℕ → ℕ
stock_after item orders t = sum (take (t + 1) orders) - demand_upto item (t + 1)

-- an order for each period, which cover the demand of each period and of those before it
pub record IsPlan (item : LotSize) (orders : List ℕ) : Type 0 where
  pub each : length orders ≡ length item.demand
  pub covers : (t : ℕ) → t ≤ length item.demand → demand_upto item t ≤ sum (take t orders)

-- the setup of an order that isn't 0
abbrev pub setup_paid : LotSize → List ℕ → ℕ → ℕ
setup_paid item orders t = if slice_index orders t == 0 then 0 else slice_index item.setup t

-- what a period costs: the setup, the units ordered, and the stock at its end
abbrev pub period_cost : LotSize → List ℕ → ℕ → ℕ
period_cost item orders t =
    setup_paid item orders t + slice_index item.unit t * slice_index orders t + slice_index item.holding t * stock_after item orders t

-- the cost of a plan
abbrev pub plan_cost : LotSize → List ℕ → ℕ
plan_cost item orders = sum_by (period_cost item orders) (range_with_len 0 (length item.demand))

-- a plan that has this cost, and no plan costs less
pub record LeastPlan (item : LotSize) (orders : List ℕ) (cost : ℕ) : Type 0 where
  pub plan : IsPlan item orders
  pub cost_is : plan_cost item orders ≡ cost
  pub least : (other : List ℕ) → IsPlan item other → cost ≤ plan_cost item other

-- the holding cost of a unit from the end of period t to the beginning of period k
abbrev pub holding_between : LotSize → ℕ → ℕ → ℕ
holding_between item t k = sum (take (k - t) (drop t item.holding))

-- the cost of serving the demand of period k from an order in period t, its setup aside
abbrev pub serving_cost : LotSize → ℕ → ℕ → ℕ
serving_cost item t k = slice_index item.demand k * (slice_index item.unit t + holding_between item t k)
