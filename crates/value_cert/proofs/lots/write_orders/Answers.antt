use Rattle.std.proofs.Common.{◌+◌, [], ◌∷◌, ◌++◌, take, drop, ap, sym, ◌∙◌, arith}
use Rattle.std.proofs.lemmas.List.{take_all}
use Rattle.value_cert.proofs.Orders.{orders_split, orders_more}
use Rattle.value_cert.proofs.Writing.{wrote_none, now_wrote, now_failed, wrote_all}
use Rattle.value_cert.specs.Lots.{order_lines}
use Rattle.value_cert.proofs.lots.write_orders.Goals as goal

pub loop-period-init : goal.loop-period-init
loop-period-init g c = wrote_none _

pub returns-in_err-write_line : goal.returns-in_err-write_line
returns-in_err-write_line g c =
    let i = c.loop-period.period in
    let orders = c.args.orders.now in
    let duals = c.args.duals.now in
    let rest = order_lines (drop (i + 1) orders) (drop (i + 1) duals) in
    let more = ap (λ line. order_lines (take i orders) (take i duals) ++ line ∷ []) c.order_line-line.ensures ∙ sym (orders_more i orders duals c.requires c.loop-period-test.true) in
    let whole = ap (λ t. t ++ rest) more ∙ orders_split (i + 1) orders duals c.requires in
    now_failed rest c.loop-period.invariant c.in_err-write_line.ensures c.from_residual.ensures.0 whole

pub loop-period-preserved : goal.loop-period-preserved
loop-period-preserved g c =
    let i = c.loop-period.period in
    let orders = c.args.orders.now in
    let duals = c.args.duals.now in
    let more = ap (λ line. order_lines (take i orders) (take i duals) ++ line ∷ []) c.order_line-line.ensures ∙ sym (orders_more i orders duals c.requires c.loop-period-test.true) in
    now_wrote c.loop-period.invariant c.in_ok-write_line.ensures more

pub returns : goal.returns
returns g c =
    let i = c.loop-period.period in
    let orders = take_all i c.args.orders.now c.loop-period-test.false in
    let duals = take_all i c.args.duals.now (omega (arith, c.requires, c.loop-period-test.false)) in
    wrote_all c.loop-period.invariant (ap (λ t. order_lines t (take i c.args.duals.now)) orders ∙ ap (order_lines c.args.orders.now) duals)
