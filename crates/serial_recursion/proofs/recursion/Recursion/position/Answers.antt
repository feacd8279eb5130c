use Rattle.std.proofs.Common.{rules, ◌^◌, ◌≤◌, ℤ, sym, subst, arith, FitsSigned, to_z-of_z, w64}
use Rattle.std.specs.Prelude.{unsigned_abs}
use Rattle.serial_recursion.proofs.Facts.{left_parts, some_period, low_small}
use Rattle.serial_recursion.proofs.Frames.{width_most}
use Rattle.serial_recursion.proofs.Known.{valid_known}
use Rattle.serial_recursion.specs.Rows.{period_of}
use Rattle.serial_recursion.proofs.recursion.Recursion.position.Goals as goal

pub position_at-requires-clause-low : goal.position_at-requires-clause-low
position_at-requires-clause-low c =
    let r = c.args.self.now in
    let serial = r.serial.now in
    let one = (left_parts serial r.periods r.echelons r.cells c.requires.left).0 in
    let low : FitsSigned w64 r.frame.low = search rules in
    subst (λ (z : ℤ). unsigned_abs z ≤ 2 ^ 40) (sym (to_z-of_z low)) (low_small serial (valid_known serial r.valid) r.periods (some_period r.periods r.echelons r.cells r.values.now r.fresh one) r.within r.frame r.is_frame)

pub position_at-requires-clause-few : goal.position_at-requires-clause-few
position_at-requires-clause-few c =
    let r = c.args.self.now in
    let serial = r.serial.now in
    let valid = valid_known serial r.valid in
    omega (arith, (left_parts serial r.periods r.echelons r.cells c.requires.left).1, width_most serial valid (period_of serial r.periods) (omega arith), valid.regular.grid.positions)
