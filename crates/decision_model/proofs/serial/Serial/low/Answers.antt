use Rattle.std.proofs.Common.{arith}
use Rattle.decision_model.specs.LawFacts.{greatest_in_range}
use Rattle.decision_model.proofs.serial.Serial.low.Goals as goal

pub low_after-requires-clause-greatest : goal.low_after-requires-clause-greatest
low_after-requires-clause-greatest c =
    let serial = c.args.self.now in
    omega (arith, c.greatest.ensures, greatest_in_range serial.laws serial.periods c.requires.readable.laws)
