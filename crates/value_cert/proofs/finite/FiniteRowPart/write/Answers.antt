use Rattle.std.proofs.Common.{pos}
use Rattle.value_cert.proofs.Writing.{line_failed, line_then, behind_line, each_one}
use Rattle.value_cert.specs.Finite.{value_line}
use Rattle.value_cert.specs.declared.line.CertLine.TheVariants.{Period}
use Rattle.value_cert.proofs.finite.FiniteRowPart.write.Goals as goal

pub returns-in_err-write_line : goal.returns-in_err-write_line
returns-in_err-write_line g c = line_failed c.in_err-write_line.ensures c.period_line-line.ensures c.from_residual.ensures.0

pub write_each-requires : goal.write_each-requires
write_each-requires g c = behind_line (Period (pos c.args.self.now.period)) c.requires (each_one value_line _ _ c.as_slice.ensures)

pub returns : goal.returns
returns g c = line_then c.in_ok-write_line.ensures c.period_line-line.ensures c.write_each.ensures (each_one value_line _ _ c.as_slice.ensures)
