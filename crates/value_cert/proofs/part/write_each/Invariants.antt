use Rattle.std.proofs.Common.{take}
use Rattle.std.specs.List.{flat_map}
use Rattle.value_cert.proofs.Writing.{Wrote}
use Rattle.value_cert.specs.Writes.{output}
use Rattle.value_cert.proofs.part.write_each.Given as goal

abbrev pub invariant-loop-part : goal.invariant-loop-part
invariant-loop-part g l =
    Wrote (output (g.K.Sink.written l.fn.sink) (g.K.Sink.faults l.fn.sink) l.fn.piece.items)
    (output (g.K.Sink.written l.sink) (g.K.Sink.faults l.sink) l.piece.items)
    (flat_map g.P.Part.lines (take l.part-index l.parts))
