use Rattle.serial_echelon.proofs.PeriodLoop.{IsSolvingPeriods}
use Rattle.serial_echelon.proofs.solve.solve_periods.Given as goal

abbrev pub invariant-loop : goal.invariant-loop
invariant-loop l = IsSolvingPeriods l.serial l.recursion l.periods.items l.counter
