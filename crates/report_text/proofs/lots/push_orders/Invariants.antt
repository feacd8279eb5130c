use Rattle.std.proofs.Common.{◌≡◌, ◌+◌, ◌++◌, slice_index}
use Rattle.std.specs.List.{flat_map, range_with_len}
use Rattle.report_text.specs.Lots.{order_report}
use Rattle.report_text.proofs.lots.push_orders.Given as goal

abbrev pub invariant-loop-place : goal.invariant-loop-place
invariant-loop-place l = l.out ≡ l.initial.out ++ flat_map (λ place. order_report (place + 1) (slice_index l.orders place)) (range_with_len 0 l.place)
