use Rattle.average_recursion.proofs.Known.{valid_known}
use Rattle.average_recursion.proofs.points.Points.begin.Goals as goal

pub gain_of-self-requires-clause-valid : goal.gain_of-self-requires-clause-valid
gain_of-self-requires-clause-valid c = valid_known c.args.self.now.average.now c.args.self.now.valid
