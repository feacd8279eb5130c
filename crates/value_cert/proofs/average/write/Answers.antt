use Rattle.std.proofs.Common.{List, [], ◌∷◌, ◌++◌, pos, map}
use Rattle.decision_model.specs.declared.kinds.Kind.TheVariants.{Average}
use Rattle.value_cert.proofs.Writing.{lines_failed, lines_then, each_one, between_lines}
use Rattle.value_cert.specs.Average.{point_line}
use Rattle.value_cert.specs.declared.line.CertLine.{CertLine}
use Rattle.value_cert.specs.declared.line.CertLine.TheVariants.{Head, Gain, Pair, End}
use Rattle.value_cert.proofs.average.write.Goals as goal

pub returns-in_err-write_each : goal.returns-in_err-write_each
returns-in_err-write_each g c =
    lines_failed (map point_line c.args.cert.now.cells ++ End ∷ []) c.in_err-write_each.ensures c.from_residual.ensures.0
    (cc (c.head_line.ensures, c.gain_line.ensures, c.pair_line.ensures))

pub write_to_end-requires : goal.write_to_end-requires
write_to_end-requires g c =
    let cert = c.args.cert.now in
    let front : List CertLine = Head Average (pos 1) (pos 1) ∷ Gain (pos cert.num) (pos cert.den) ∷ Pair cert.low cert.high ∷ [] in
    between_lines front (map point_line cert.cells) (End ∷ []) c.requires (each_one point_line _ _ c.as_slice.ensures)

pub returns : goal.returns
returns g c =
    lines_then c.in_ok-write_each.ensures c.write_to_end.ensures
    (cc (c.head_line.ensures, c.gain_line.ensures, c.pair_line.ensures, each_one point_line _ _ c.as_slice.ensures))
