use Rattle.average_recursion.proofs.Known.{valid_known}
use Rattle.average_recursion.proofs.points.Points.average.Goals as goal

pub returns-clause-valid : goal.returns-clause-valid
returns-clause-valid c = valid_known c.args.self.now.average.now c.args.self.now.valid
