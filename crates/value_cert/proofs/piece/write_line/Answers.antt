use Rattle.std.proofs.Common.{[], ◌∷◌, refl}
use Rattle.value_cert.proofs.Writing.{lines_failed}
use Rattle.value_cert.proofs.piece.write_line.Goals as goal

pub returns-in_err-make_room : goal.returns-in_err-make_room
returns-in_err-make_room g c = lines_failed (c.args.line.now ∷ []) c.in_err-make_room.ensures.writes c.from_residual.ensures.0 refl
