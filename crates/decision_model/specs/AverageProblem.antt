-- The average kind as a decision problem of some number of periods, from a start: its state is the position before an
-- order, its choice the one after it.
use Rattle.std.specs.Prelude.{ℕ, suc, ◌+◌, ℤ, pos, ◌-ℤ◌, int_le, int_lt, ◌&&◌, if◌then◌else◌, sum, take}
use Rattle.std.specs.Int.{int_min}
use Rattle.demand_law.specs.Law.{greatest_of}
use Rattle.decision_model.specs.declared.average.Average.{Average}
use Rattle.decision_model.specs.Policies.{Problem}
use Rattle.decision_model.specs.Stock.{cost_at}

-- what an order that leads from x to y costs: nothing where nothing is ordered
unfoldable pub order_charge : Average → ℤ → ℤ → ℕ
order_charge average x y = if int_lt x y then average.setup else 0

-- what is left of a position and what lacks costs, once a demand has come
unfoldable pub stock_charge : Average → ℤ → ℕ → ℕ
stock_charge average y demand = cost_at average.holding average.stockout y demand

-- the lowest position that a state can have: the start, or the floor less the greatest demand
abbrev pub lowest_state : Average → ℤ → ℤ
lowest_state average start = int_min start (average.floor -ℤ pos (greatest_of average.law))

-- a period's cost looks at its own demand and those until its order has come
abbrev pub average_problem : Average → ℕ → ℤ → Problem ℤ
average_problem average periods start = record {
  horizon = periods;
  lookahead = average.lead;
  discount_num = 1;
  discount_den = 1;
  law = λ t. average.law;
  start = start;
  grid = λ t x. int_le (lowest_state average start) x && int_le x average.cap;
  allows = λ t x y. int_le x y && (int_le average.floor y && int_le y average.cap);
  next = λ x y d. y -ℤ pos d;
  cost = λ t x y ds. pos (order_charge average x y + stock_charge average y (sum (take (suc average.lead) ds)));
  end_cost = λ x. pos 0;
}
