use Rattle.report_text.proofs.PeriodShapes.{by_periods}
use Rattle.report_text.proofs.finite.shapes_go_by_periods.Goals as goal

pub returns : goal.returns
returns c = by_periods
