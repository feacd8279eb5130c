use Rattle.std.proofs.Common.{◌+◌, arith}
use Rattle.decision_model.specs.LawFacts.{greatest_in_range}
use Rattle.decision_model.proofs.finite.finite_cost_bound.Goals as goal

pub most_lacking-lacking-requires-clause-greatest : goal.most_lacking-lacking-requires-clause-greatest
most_lacking-lacking-requires-clause-greatest c =
    let finite = c.args.finite.now in
    omega (arith, c.greatest.ensures, greatest_in_range finite.laws (finite.periods + finite.lead) c.requires.laws)
