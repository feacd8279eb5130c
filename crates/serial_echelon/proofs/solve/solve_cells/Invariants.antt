use Rattle.serial_echelon.proofs.CellLoop.{IsSolvingCells}
use Rattle.serial_echelon.proofs.solve.solve_cells.Given as goal

abbrev pub invariant-loop : goal.invariant-loop
invariant-loop l = IsSolvingCells l.fn.recursion l.recursion l.cells.items l.counter
