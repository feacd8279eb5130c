use Rattle.std.proofs.Common.{◌+◌}
use Rattle.report_text.specs.Demand.{law_of_periods, period_text}
use Rattle.report_text.proofs.Lines.{more_lines}
use Rattle.report_text.proofs.periods.push_each.Goals as goal

pub loop-place-preserved : goal.loop-place-preserved
loop-place-preserved c = more_lines (λ place. period_text (place + 1) (law_of_periods c.args.laws.now place c.args.count)) c.loop-place.place _ _ _ c.loop-place.invariant c.in_ok-push_period.ensures
