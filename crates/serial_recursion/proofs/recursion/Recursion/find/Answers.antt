use Rattle.std.proofs.Common.{rules, ◌+◌, ◌-◌, ◌*◌, pos, length, slice_index_or, ◌∙◌, ap, arith, FitsSigned, to_z-of_z}
use Rattle.std.specs.Int.{w128}
use Rattle.serial_recursion.proofs.Facts.{left_parts, some_period, cell_inside, cells_few}
use Rattle.serial_recursion.proofs.Known.{valid_known}
use Rattle.serial_recursion.proofs.PeriodSteps.{found_is}
use Rattle.serial_recursion.specs.Rows.{value_at}
use Rattle.serial_recursion.proofs.recursion.Recursion.find.Goals as goal

pub bounds-self-self : goal.bounds-self-self
bounds-self-self c =
    let r = c.args.self.now in
    let serial = r.serial.now in
    let parts = left_parts serial r.periods r.echelons r.cells c.requires.left in
    cell_inside serial (valid_known serial r.valid) r.periods r.echelons r.cells r.values.now r.costs.now r.charges.now r.within r.tables parts.0 r.echelons_within parts.1

pub overflow_add-result : goal.overflow_add-result
overflow_add-result c =
    let r = c.args.self.now in
    let serial = r.serial.now in
    omega (arith, bounds-self-self c, cells_few serial (valid_known serial r.valid) r.values.now r.costs.now r.charges.now r.tables)

pub offset_bounds-self-self : goal.offset_bounds-self-self
offset_bounds-self-self c =
    let r = c.args.self.now in
    let serial = r.serial.now in
    omega (arith, bounds-self-self c, cells_few serial (valid_known serial r.valid) r.values.now r.costs.now r.charges.now r.tables)

pub returns : goal.returns
returns c = λ first knows.
    let r = c.args.self.now in
    let serial = r.serial.now in
    let parts = left_parts serial r.periods r.echelons r.cells c.requires.left in
    let some = some_period r.periods r.echelons r.cells r.values.now r.fresh parts.0 in
    let place = (r.echelons - 1) * length r.costs.now + r.cells in
    let fits : FitsSigned w128 (slice_index_or r.values.now place (pos 0)) = search rules in
    to_z-of_z fits ∙ ap (λ k. value_at r.values.now ((r.echelons - 1) * k + r.cells)) r.tables.are_costs
    ∙ found_is serial r.periods r.echelons r.cells r.values.now r.costs.now r.level first some parts.0 parts.1 knows
