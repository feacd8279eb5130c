use Rattle.std.proofs.Common.{◌+◌, ◌*◌, ◌∙◌, ap, arith}
use Rattle.std.proofs.lemmas.Int.{ints}
use Rattle.decision_model.specs.Average.{average_cost_bound}
use Rattle.decision_model.specs.Positions.{above_zero}
use Rattle.average_lemmas.specs.PlaceSizes.{near_back}
use Rattle.average_recursion.proofs.bound.cost_bound.Goals as goal

pub returns-clause-bound : goal.returns-clause-bound
unfolding average_cost_bound
returns-clause-bound c =
    let cap = near_back c.args.average.now.cap (omega (arith, ints, c.requires.cap.least, c.requires.cap.most)) in
    λ i. 1 + c.from.ensures i * (c.from-2.ensures ∙ c.above_zero.ensures ∙ ap above_zero cap) i + c.from-3.ensures i * (c.from-4.ensures ∙ c.most_lacking.ensures.lacking) i
