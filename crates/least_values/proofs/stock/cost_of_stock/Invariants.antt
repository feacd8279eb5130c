use Rattle.std.proofs.Common.{◌≡◌, pos, take}
use Rattle.least_values.specs.Stock.{stock_cost}
use Rattle.least_values.proofs.stock.cost_of_stock.Given as goal

abbrev pub invariant-loop-demand : goal.invariant-loop-demand
invariant-loop-demand l = pos l.cost ≡ stock_cost l.over l.under (take l.demand l.weights) l.position
