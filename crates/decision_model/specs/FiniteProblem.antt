-- The finite kind as a decision problem: its state is the position before an order, its choice the one after it.
use Rattle.std.specs.Prelude.{Option, None, Some, ℕ, suc, ◌-◌, ℤ, pos, ◌+ℤ◌, ◌-ℤ◌, ◌*ℤ◌, int_le, int_lt, ◌&&◌, if◌then◌else◌, List, sum, take}
use Rattle.std.specs.Int.{int_min}
use Rattle.demand_law.specs.Sequences.{law_at}
use Rattle.decision_model.specs.declared.finite.Finite.{Finite}
use Rattle.decision_model.specs.Finite.{finite_low}
use Rattle.decision_model.specs.Policies.{Problem}
use Rattle.decision_model.specs.Stock.{cost_at}

-- the law of period t, from 1
abbrev pub law_of_period : Finite → ℕ → List ℕ
law_of_period finite t = law_at finite.laws (t - 1)

-- the setup cost of an order that leads from x to y: none where nothing is ordered
abbrev pub setup_of : ℕ → ℤ → ℤ → ℤ
setup_of setup x y = if int_lt x y then pos setup else pos 0

-- what the order costs
abbrev pub order_cost : Finite → ℤ → ℤ → ℤ
order_cost finite x y = setup_of finite.setup x y +ℤ pos finite.unit *ℤ (y -ℤ x)

-- what is left of a position and what lacks costs, once a demand has come
abbrev pub stock_cost_at : Finite → ℤ → ℕ → ℤ
stock_cost_at finite y demand = pos (cost_at finite.holding finite.stockout y demand)

-- what the position after the last period costs
abbrev pub end_cost : Finite → ℤ → ℤ
end_cost finite x = pos (cost_at finite.end_holding finite.end_stockout x 0)

-- the greatest position that an order may lead to, where orders have a greatest size
abbrev pub up_to : Option ℕ → ℤ → ℤ → ℤ
up_to None cap x = cap
up_to (Some most) cap x = int_min cap (x +ℤ pos most)

abbrev pub top : Finite → ℤ → ℤ
top finite x = up_to finite.most finite.cap x

-- a period's cost looks at its own demand and those until its order has come
abbrev pub finite_problem : Finite → Problem ℤ
finite_problem finite = record {
  horizon = finite.periods;
  lookahead = finite.lead;
  discount_num = finite.discount_num;
  discount_den = finite.discount_den;
  law = law_of_period finite;
  start = finite.start;
  grid = λ t x. int_le (finite_low finite t) x && int_le x finite.cap;
  allows = λ t x y. int_le x y && int_le y (top finite x);
  next = λ x y d. y -ℤ pos d;
  cost = λ t x y ds. order_cost finite x y +ℤ stock_cost_at finite y (sum (take (suc finite.lead) ds));
  end_cost = end_cost finite;
}
