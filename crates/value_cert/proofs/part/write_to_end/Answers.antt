use Rattle.std.proofs.Common.{refl, [], ◌∷◌}
use Rattle.value_cert.proofs.Writing.{lines_failed, lines_then}
use Rattle.value_cert.specs.declared.line.CertLine.TheVariants.{End}
use Rattle.value_cert.proofs.part.write_to_end.Goals as goal

pub returns-in_err-write_each : goal.returns-in_err-write_each
returns-in_err-write_each g c = lines_failed (End ∷ []) c.in_err-write_each.ensures c.from_residual.ensures.0 refl

pub returns : goal.returns
returns g c = lines_then c.in_ok-write_each.ensures c.write_line.ensures refl
