use Rattle.average_recursion.proofs.Known.{valid_known}
use Rattle.average_recursion.proofs.points.Points.floor_place.Goals as goal

pub first_place-requires-clause-valid : goal.first_place-requires-clause-valid
first_place-requires-clause-valid c = valid_known c.args.self.now.average.now c.args.self.now.valid
