use Rattle.finite_ss.proofs.RowsLoop.{IsSolvingRows}
use Rattle.finite_ss.proofs.solve.solve_rows.Given as goal

abbrev pub invariant-loop : goal.invariant-loop
invariant-loop l = IsSolvingRows l.finite l.recursion l.rows.items l.counter
