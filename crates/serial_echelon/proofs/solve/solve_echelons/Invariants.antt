use Rattle.serial_echelon.proofs.EchelonLoop.{IsSolvingRows}
use Rattle.serial_echelon.proofs.solve.solve_echelons.Given as goal

abbrev pub invariant-loop : goal.invariant-loop
invariant-loop l = IsSolvingRows l.fn.recursion l.recursion l.rows.items l.counter
