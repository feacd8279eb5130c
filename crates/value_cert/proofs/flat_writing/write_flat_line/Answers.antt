use Rattle.std.proofs.Common.{refl}
use Rattle.value_cert.specs.FlatLines.{line_text}
use Rattle.value_cert.proofs.FlatWriting.{text_failed}
use Rattle.value_cert.proofs.flat_writing.write_flat_line.Goals as goal

pub returns-in_err-make_flat_room : goal.returns-in_err-make_flat_room
returns-in_err-make_flat_room g c = text_failed (line_text c.args.name c.args.line.now) c.in_err-make_flat_room.ensures.writes c.from_residual.ensures.0 refl
