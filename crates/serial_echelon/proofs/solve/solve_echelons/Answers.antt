use Rattle.std.proofs.Common.{List, ◌≡◌, ◌+◌, sym, subst}
use Rattle.value_cert.specs.declared.serial.SerialRow.{SerialRow}
use Rattle.serial_echelon.proofs.EchelonLoop.{IsSolvingRows, rows_go_on}
use Rattle.serial_echelon.proofs.solve.solve_echelons.Goals as goal

pub loop-preserved : goal.loop-preserved
loop-preserved c =
    let e = c.in_ok-solve_echelon.ensures in
    let P : List SerialRow → Type 0 = λ rows. IsSolvingRows c.args.recursion.now c.solve_echelon.new.recursion rows (c.loop.counter + 1) in
    subst P (sym c.in_ok-push.ensures.items)
    (rows_go_on c.args.recursion.now c.loop.recursion c.solve_echelon.new.recursion c.loop.rows.items c.loop.counter c.in_ok-solve_echelon.field-0 c.loop.invariant e.serial e.periods e.echelons e.all e.row e.solved)
