use Rattle.std.proofs.Common.{take, map}
use Rattle.value_cert.specs.FlatWrites.{flat_text}
use Rattle.value_cert.specs.Writes.{output, Took}
use Rattle.value_cert.proofs.flat_writing.write_rows.Given as goal

abbrev pub invariant-loop-part : goal.invariant-loop-part
invariant-loop-part g l =
    Took (output (g.K.Sink.written l.fn.sink) (g.K.Sink.faults l.fn.sink) l.fn.piece.items)
    (output (g.K.Sink.written l.sink) (g.K.Sink.faults l.sink) l.piece.items)
    (flat_text l.name (map g.P.FlatPart.line (take l.part-index l.parts)))
