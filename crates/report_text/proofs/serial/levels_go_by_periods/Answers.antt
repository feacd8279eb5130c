use Rattle.report_text.proofs.PeriodLevels.{by_periods}
use Rattle.report_text.proofs.serial.levels_go_by_periods.Goals as goal

pub returns : goal.returns
returns c = by_periods
