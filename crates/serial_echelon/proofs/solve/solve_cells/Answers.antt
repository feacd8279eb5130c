use Rattle.std.proofs.Common.{List, ◌≡◌, ◌≤◌, ◌+◌, sym, ap, arith, subst, length}
use Rattle.decision_model.specs.declared.serial.Serial.{Serial}
use Rattle.value_cert.specs.declared.serial.SerialCell.{SerialCell}
use Rattle.serial_echelon.proofs.CellLoop.{IsSolvingCells, cells_go_on}
use Rattle.serial_echelon.proofs.solve.solve_cells.Goals as goal

pub solve_position-requires-clause-within : goal.solve_position-requires-clause-within
solve_position-requires-clause-within c = omega (arith, c.requires.within, c.loop.invariant.echelons, ap (λ (s : Serial). length s.holding) c.loop.invariant.same)

pub loop-preserved : goal.loop-preserved
loop-preserved c =
    let e = c.solve_position.ensures in
    let P : List SerialCell → Type 0 = λ cells. IsSolvingCells c.args.recursion.now c.solve_position.new.recursion cells (c.loop.counter + 1) in
    subst P (sym c.in_ok-push.ensures.items)
    (cells_go_on c.args.recursion.now c.loop.recursion c.solve_position.new.recursion c.loop.cells.items c.loop.counter c.solve_position.result c.loop.invariant e.serial e.periods e.echelons e.cells e.cell e.solved)
