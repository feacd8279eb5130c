use Rattle.wagner_whitin.proofs.Steps.{IsRecursion}
use Rattle.wagner_whitin.proofs.solve.run_recursion.Given as goal

abbrev pub invariant-loop-period : goal.invariant-loop-period
invariant-loop-period l = IsRecursion l.lots l.costs.items l.last_orders.items l.first l.period
