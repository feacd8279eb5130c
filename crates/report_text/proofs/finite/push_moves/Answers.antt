use Rattle.std.proofs.Common.{rules, refl}
use Rattle.report_text.specs.Finite.{move_line}
use Rattle.report_text.proofs.Lines.{more_back}
use Rattle.report_text.proofs.finite.push_moves.Goals as goal

pub loop-place-preserved : goal.loop-place-preserved
loop-place-preserved c = more_back move_line c.args.cells.now c.loop-place.place _ _ _ _ _ (search rules) (search rules) c.loop-place.invariant refl c.in_ok-push_move.ensures
