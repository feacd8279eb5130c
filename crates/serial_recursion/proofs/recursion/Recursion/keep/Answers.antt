use Rattle.serial_recursion.proofs.Facts.{left_parts, some_period}
use Rattle.serial_recursion.proofs.PeriodSteps.{knows_kept}
use Rattle.serial_recursion.proofs.recursion.Recursion.keep.Goals as goal

pub returns-clause-knows : goal.returns-clause-knows
returns-clause-knows c = λ first at value knows at_is exact.
    let r = c.args.self.now in
    let serial = r.serial.now in
    let parts = left_parts serial r.periods r.echelons r.cells c.requires.left in
    let some = some_period r.periods r.echelons r.cells r.values.now r.fresh parts.0 in
    knows_kept serial r.periods r.echelons r.cells r.values.now r.costs.now r.level first at value some parts.0 parts.1 at_is exact knows
