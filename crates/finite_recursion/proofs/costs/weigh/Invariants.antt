use Rattle.std.proofs.Common.{◌≡◌, take}
use Rattle.finite_recursion.specs.Demands.{listed_sum}
use Rattle.finite_recursion.specs.Rows.{value_at}
use Rattle.finite_recursion.proofs.costs.weigh.Given as goal

abbrev pub invariant-loop-demand : goal.invariant-loop-demand
invariant-loop-demand l = l.sum ≡ listed_sum l.weights (take l.demand-index l.listed) (value_at l.later)
