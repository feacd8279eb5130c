use Rattle.std.proofs.Common.{◌+◌, arith}
use Rattle.decision_model.specs.LawFacts.{greatest_in_range}
use Rattle.decision_model.proofs.finite.Finite.low.Goals as goal

pub low_after-requires-clause-greatest : goal.low_after-requires-clause-greatest
low_after-requires-clause-greatest c =
    let finite = c.args.self.now in
    omega (arith, c.greatest.ensures, greatest_in_range finite.laws (finite.periods + finite.lead) c.requires.readable.laws)
