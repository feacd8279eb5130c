use Rattle.std.proofs.Common.{arith}
use Rattle.serial_recursion.proofs.Frames.{width_most}
use Rattle.serial_recursion.proofs.Known.{valid_known}
use Rattle.serial_recursion.specs.Rows.{period_of}
use Rattle.serial_recursion.proofs.recursion.Recursion.turns_at.Goals as goal

pub turns_at-requires-clause-costs : goal.turns_at-requires-clause-costs
turns_at-requires-clause-costs c =
    let r = c.args.self.now in
    let serial = r.serial.now in
    omega (arith, r.is_frame.is_count, width_most serial (valid_known serial r.valid) (period_of serial r.periods) (omega arith), r.tables.are_costs)
