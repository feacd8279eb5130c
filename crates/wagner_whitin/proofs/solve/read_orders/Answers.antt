use Rattle.std.proofs.Common.{◌≡◌, ◌-◌, length, vec_len, get_or, arith, rules}
use Rattle.wagner_whitin.proofs.Steps.{read_idle, read_order, order_known, stretch_total, all_read}
use Rattle.wagner_whitin.proofs.solve.read_orders.Goals as goal

pub total_between-requires-clause-ordered : goal.total_between-requires-clause-ordered
total_between-requires-clause-ordered c =
    let known = order_known c.args.lots.now c.requires.valid c.args.last_orders.now c.requires.last_orders c.loop-unread.unread c.loop-unread-test.true c.loop-unread.invariant.within (rw c.as_slice-demand.ensures at c.if-demand-period-eq0.false) in
    omega (arith, known.1)

pub total_between-requires-clause-fits : goal.total_between-requires-clause-fits
total_between-requires-clause-fits c =
    let start = get_or c.args.last_orders.now (c.loop-unread.unread - 1) 0 in
    let small = stretch_total c.args.lots.now c.requires.valid start (c.loop-unread.unread - start) in
    rw c.as_slice-demand.ensures (omega (arith, small))

pub index_mut-requires : goal.index_mut-requires
index_mut-requires c =
    let known = order_known c.args.lots.now c.requires.valid c.args.last_orders.now c.requires.last_orders c.loop-unread.unread c.loop-unread-test.true c.loop-unread.invariant.within (rw c.as_slice-demand.ensures at c.if-demand-period-eq0.false) in
    let wide : vec_len c.loop-unread.orders ≡ length c.loop-unread.orders.items = search rules in
    omega (arith, known.1, wide, c.loop-unread.invariant.within, c.loop-unread.invariant.each)

pub loop-unread-smaller : goal.loop-unread-smaller
loop-unread-smaller c =
    (order_known c.args.lots.now c.requires.valid c.args.last_orders.now c.requires.last_orders c.loop-unread.unread c.loop-unread-test.true c.loop-unread.invariant.within (rw c.as_slice-demand.ensures at c.if-demand-period-eq0.false)).1

pub loop-unread-preserved : goal.loop-unread-preserved
loop-unread-preserved c =
    let item = c.args.lots.now in
    let demanded = rw c.as_slice-demand.ensures at c.if-demand-period-eq0.false in
    let known = order_known item c.requires.valid c.args.last_orders.now c.requires.last_orders c.loop-unread.unread c.loop-unread-test.true c.loop-unread.invariant.within demanded in
    let start = get_or c.args.last_orders.now (c.loop-unread.unread - 1) 0 in
    read_order item c.requires.valid c.loop-unread.unread c.loop-unread.orders.items start c.total_between.result c.loop-unread-test.true demanded known.0 (rw c.as_slice-demand.ensures at c.total_between.ensures) c.loop-unread.invariant

pub loop-unread-preserved-then-demand-period-eq0 : goal.loop-unread-preserved-then-demand-period-eq0
loop-unread-preserved-then-demand-period-eq0 c =
    read_idle c.args.lots.now c.loop-unread.unread c.loop-unread.orders.items c.loop-unread-test.true (rw c.as_slice-demand.ensures at c.if-demand-period-eq0.true) c.loop-unread.invariant

pub returns : goal.returns
returns c = all_read c.args.lots.now c.loop-unread.unread c.loop-unread.orders.items c.loop-unread-test.false c.loop-unread.invariant
