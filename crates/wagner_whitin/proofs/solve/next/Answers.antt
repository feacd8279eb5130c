use Rattle.std.proofs.Common.{arith}
use Rattle.wagner_whitin.proofs.Search.{costs_known}
use Rattle.wagner_whitin.proofs.solve.next.Goals as goal

pub bounds-costs-period : goal.bounds-costs-period
bounds-costs-period c = (costs_known c.args.lots.now c.requires.valid c.args.costs.now c.args.period c.requires.costs c.requires.within c.args.period (omega arith)).0
