use Rattle.std.proofs.Common.{take}
use Rattle.value_cert.specs.Lots.{order_lines}
use Rattle.value_cert.proofs.Writing.{Wrote}
use Rattle.value_cert.specs.Writes.{output}
use Rattle.value_cert.proofs.lots.write_orders.Given as goal

abbrev pub invariant-loop-period : goal.invariant-loop-period
invariant-loop-period g l =
    Wrote (output (g.K.Sink.written l.fn.sink) (g.K.Sink.faults l.fn.sink) l.fn.piece.items)
    (output (g.K.Sink.written l.sink) (g.K.Sink.faults l.sink) l.piece.items)
    (order_lines (take l.period l.orders) (take l.period l.duals))
