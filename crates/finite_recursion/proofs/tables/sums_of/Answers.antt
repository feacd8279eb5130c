use Rattle.std.proofs.Common.{◌+◌, arith}
use Rattle.decision_model.specs.LawFacts.{greatest_in_range}
use Rattle.finite_recursion.proofs.tables.sums_of.Goals as goal

pub lead_sums-requires-clause-greatest : goal.lead_sums-requires-clause-greatest
lead_sums-requires-clause-greatest c =
    let finite = c.args.finite.now in
    omega (arith, c.greatest.ensures, greatest_in_range finite.laws (finite.periods + finite.lead) c.requires.regular.readable.laws)
