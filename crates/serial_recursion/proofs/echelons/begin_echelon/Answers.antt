use Rattle.std.proofs.Common.{arith}
use Rattle.serial_recursion.proofs.Begins.{rows_fit, count_fits, count_some, orders_room, old_small, new_small, charges_small}
use Rattle.serial_recursion.proofs.echelons.begin_echelon.Goals as goal

pub begin_rows-requires-clause-few : goal.begin_rows-requires-clause-few
begin_rows-requires-clause-few c =
    let serial = c.args.serial.now in
    let r = c.requires in
    rows_fit serial r.valid c.args.periods r.some r.within c.args.frame.now r.frame c.args.echelon r.echelon c.args.values.now c.args.costs.now c.args.level r.level r.bounded

pub begin_rows-requires-clause-small : goal.begin_rows-requires-clause-small
begin_rows-requires-clause-small c = λ one k lt.
    let serial = c.args.serial.now in
    let r = c.requires in
    omega (arith, old_small serial r.valid c.args.periods r.some r.within c.args.frame.now r.frame c.args.echelon r.echelon c.args.values.now c.args.costs.now c.args.level r.level r.bounded one k lt)

pub begin_rows-requires-clause-room : goal.begin_rows-requires-clause-room
begin_rows-requires-clause-room c =
    let serial = c.args.serial.now in
    let r = c.requires in
    orders_room serial r.valid c.args.periods r.some r.within c.args.frame.now r.frame c.args.echelon r.echelon c.args.values.now c.args.costs.now c.args.level r.level r.bounded

pub end_rows-requires-clause-few : goal.end_rows-requires-clause-few
end_rows-requires-clause-few c =
    let serial = c.args.serial.now in
    let r = c.requires in
    count_fits serial r.valid c.args.periods r.some r.within c.args.frame.now r.frame c.args.echelon r.echelon c.args.values.now c.args.costs.now c.args.level r.level r.bounded

pub end_rows-requires-clause-cost_sizes : goal.end_rows-requires-clause-cost_sizes
end_rows-requires-clause-cost_sizes c = λ k lt.
    let serial = c.args.serial.now in
    let r = c.requires in
    omega (arith, new_small serial r.valid c.args.periods r.some r.within c.args.frame.now r.frame c.args.echelon r.echelon c.args.values.now c.args.costs.now c.args.level r.level r.bounded c.begin_rows.new.costs c.begin_rows.ensures.costs k lt)

pub end_rows-requires-clause-charge_sizes : goal.end_rows-requires-clause-charge_sizes
end_rows-requires-clause-charge_sizes c =
    let serial = c.args.serial.now in
    let r = c.requires in
    charges_small serial r.valid c.args.periods r.some r.within c.args.frame.now r.frame c.args.echelon r.echelon c.args.values.now c.args.costs.now c.args.level r.level r.bounded c.begin_rows.new.charges c.begin_rows.ensures.charges

pub place_or_least-next-requires-clause-some : goal.place_or_least-next-requires-clause-some
place_or_least-next-requires-clause-some c =
    let serial = c.args.serial.now in
    let r = c.requires in
    omega (arith, count_some serial r.valid c.args.periods r.some r.within c.args.frame.now r.frame c.args.echelon r.echelon c.args.values.now c.args.costs.now c.args.level r.level r.bounded)

pub place_or_least-next-requires-clause-costs : goal.place_or_least-next-requires-clause-costs
place_or_least-next-requires-clause-costs c =
    let serial = c.args.serial.now in
    let r = c.requires in
    omega (arith, count_fits serial r.valid c.args.periods r.some r.within c.args.frame.now r.frame c.args.echelon r.echelon c.args.values.now c.args.costs.now c.args.level r.level r.bounded, c.begin_rows.ensures.tables.are_costs)
