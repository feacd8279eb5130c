use Rattle.std.proofs.Common.{arith}
use Rattle.decision_model.specs.LawFacts.{greatest_in_range}
use Rattle.decision_model.proofs.serial.serial_cost_bound.Goals as goal

pub cost_of-requires-clause-units : goal.cost_of-requires-clause-units
cost_of-requires-clause-units c =
    let serial = c.args.serial.now in
    omega (arith, c.greatest.ensures, c.positions.ensures.small, greatest_in_range serial.laws serial.periods c.requires.laws)
