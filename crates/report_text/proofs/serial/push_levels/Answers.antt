use Rattle.std.proofs.Common.{rules}
use Rattle.report_text.specs.Serial.{period_lines}
use Rattle.report_text.proofs.Lines.{more_back}
use Rattle.report_text.proofs.serial.push_levels.Goals as goal

pub loop-place-preserved : goal.loop-place-preserved
loop-place-preserved c = more_back period_lines c.args.periods.now c.loop-place.place c.index-periods-place.result c.index-periods-place.result _ _ _ (search rules) (search rules) c.loop-place.invariant c.index-periods-place.is c.in_ok-push_period.ensures
