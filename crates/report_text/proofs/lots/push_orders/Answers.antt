use Rattle.std.proofs.Common.{◌+◌, slice_index}
use Rattle.report_text.specs.Lots.{order_report}
use Rattle.report_text.proofs.Lines.{more_lines}
use Rattle.report_text.proofs.lots.push_orders.Goals as goal

pub loop-place-preserved : goal.loop-place-preserved
loop-place-preserved c = more_lines (λ place. order_report (place + 1) (slice_index c.args.orders.now place)) c.loop-place.place _ _ _ c.loop-place.invariant c.in_ok-push_order.ensures
