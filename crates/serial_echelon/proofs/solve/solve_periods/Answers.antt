use Rattle.std.proofs.Common.{List, ◌≡◌, ◌+◌, sym, subst}
use Rattle.value_cert.specs.declared.serial.SerialPeriod.{SerialPeriod}
use Rattle.serial_echelon.proofs.PeriodLoop.{IsSolvingPeriods, periods_go_on}
use Rattle.serial_echelon.proofs.solve.solve_periods.Goals as goal

pub loop-preserved : goal.loop-preserved
loop-preserved c =
    let e = c.in_ok-solve_period.ensures in
    let P : List SerialPeriod → Type 0 = λ periods. IsSolvingPeriods c.args.serial.now c.solve_period.new.recursion periods (c.loop.counter + 1) in
    subst P (sym c.in_ok-push.ensures.items)
    (periods_go_on c.args.serial.now c.loop.recursion c.solve_period.new.recursion c.loop.periods.items c.loop.counter c.in_ok-solve_period.field-0 c.loop.invariant e.serial e.periods e.whole e.period e.solved)
