use Rattle.std.proofs.Common.{[], ◌∷◌, ◌++◌, ap}
use Rattle.std.specs.List.{flat_map}
use Rattle.value_cert.proofs.Writing.{line_failed, line_then}
use Rattle.value_cert.specs.Serial.{period_lines}
use Rattle.value_cert.specs.declared.line.CertLine.TheVariants.{End}
use Rattle.value_cert.proofs.serial.write.Goals as goal

pub returns-in_err-write_line : goal.returns-in_err-write_line
returns-in_err-write_line g c = line_failed c.in_err-write_line.ensures c.head_line-head.ensures c.from_residual.ensures.0

pub returns : goal.returns
returns g c = line_then c.in_ok-write_line.ensures c.head_line-head.ensures c.write_to_end.ensures (ap (λ t. flat_map period_lines t ++ End ∷ []) c.as_slice.ensures)
