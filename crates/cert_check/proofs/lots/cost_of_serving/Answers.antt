use Rattle.std.proofs.Common.{◌≤◌, arith, slice_index}
use Rattle.cert_check.proofs.LotBounds.{demand_small, unit_small, holding_between_small, serving_small}
use Rattle.cert_check.proofs.lots.cost_of_serving.Goals as goal

pub overflow_add-result : goal.overflow_add-result
overflow_add-result c =
    let readable = c.requires.readable in
    let item = c.args.lots.now in
    let unit = unit_small item readable c.args.start (omega arith) in
    let held = holding_between_small item readable c.args.start c.args.period in
    rw c.as_slice-2.ensures (omega (arith, unit, held))

pub overflow_mul-result : goal.overflow_mul-result
overflow_mul-result c =
    let readable = c.requires.readable in
    let item = c.args.lots.now in
    let demand = demand_small item readable c.args.period c.requires.period in
    let unit = unit_small item readable c.args.start (omega arith) in
    let held : c.args.held ≤ 2000000000 = omega (arith, holding_between_small item readable c.args.start c.args.period) in
    rw (c.as_slice.ensures, c.as_slice-2.ensures) (omega (arith, serving_small (slice_index item.demand c.args.period) (slice_index item.unit c.args.start) c.args.held demand unit held))
