use Rattle.average_recursion.proofs.Known.{valid_known}
use Rattle.average_recursion.proofs.points.Points.take_pair.Goals as goal

pub is_pair-requires : goal.is_pair-requires
is_pair-requires c = valid_known c.args.self.now.average.now c.args.self.now.valid
