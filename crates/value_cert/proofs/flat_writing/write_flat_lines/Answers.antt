use Rattle.std.proofs.Common.{◌++◌, [], ◌∷◌, map, refl}
use Rattle.value_cert.specs.FlatWrites.{flat_text}
use Rattle.value_cert.specs.declared.flat_line.FlatLine.TheVariants.{End}
use Rattle.value_cert.proofs.FlatWriting.{text_failed, text_then}
use Rattle.value_cert.proofs.flat_writing.write_flat_lines.Goals as goal

pub returns-in_err-write_flat_line : goal.returns-in_err-write_flat_line
returns-in_err-write_flat_line g c = text_failed (flat_text c.args.name (c.args.first.now ++ map g.P.FlatPart.line c.args.parts.now ++ End ∷ [])) c.in_err-write_flat_line.ensures c.from_residual.ensures.0 refl

pub returns : goal.returns
returns g c = text_then c.in_ok-write_flat_line.ensures c.write_flat_rows.ensures refl
