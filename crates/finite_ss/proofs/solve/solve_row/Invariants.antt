use Rattle.finite_ss.proofs.RowLoop.{IsSolvingRow}
use Rattle.finite_ss.proofs.solve.solve_row.Given as goal

abbrev pub invariant-loop : goal.invariant-loop
invariant-loop l = IsSolvingRow l.fn.recursion l.recursion l.cells.items l.counter
