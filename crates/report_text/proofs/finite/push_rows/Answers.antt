use Rattle.std.proofs.Common.{rules}
use Rattle.report_text.specs.Finite.{row_lines}
use Rattle.report_text.proofs.Lines.{more_back}
use Rattle.report_text.proofs.finite.push_rows.Goals as goal

pub loop-place-preserved : goal.loop-place-preserved
loop-place-preserved c = more_back row_lines c.args.rows.now c.loop-place.place c.index-rows-place.result c.index-rows-place.result _ _ _ (search rules) (search rules) c.loop-place.invariant c.index-rows-place.is c.in_ok-push_row.ensures
