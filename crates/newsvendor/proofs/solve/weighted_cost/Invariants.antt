use Rattle.std.proofs.Common.{◌≡◌, pos, take}
use Rattle.newsvendor.specs.Cost.{level_cost}
use Rattle.newsvendor.proofs.solve.weighted_cost.Given as goal

abbrev pub invariant-loop-demand : goal.invariant-loop-demand
invariant-loop-demand l = pos l.cost ≡ level_cost l.item.holding l.item.stockout (take l.demand l.weights) l.level
