use Rattle.average_recursion.proofs.Known.{valid_known}
use Rattle.average_recursion.proofs.points.Points.next_place.Goals as goal

pub go_up-requires-clause-valid : goal.go_up-requires-clause-valid
go_up-requires-clause-valid c = valid_known c.args.self.now.average.now c.args.self.now.valid
