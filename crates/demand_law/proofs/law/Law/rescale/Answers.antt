use Rattle.std.proofs.Common.{◌≡◌, ◌%◌, sum, sym, ◌∙◌, ap, subst, rules}
use Rattle.demand_law.specs.Law.{IsLaw}
use Rattle.demand_law.specs.Named.{rescaled_law}
use Rattle.demand_law.proofs.RescaledWeights.{IsLaw-rescaled_law, sum-rescaled_law}
use Rattle.demand_law.proofs.law.Law.rescale.Goals as goal

pub from_weights-requires : goal.from_weights-requires
from_weights-requires c =
    let none : c.args.total % sum c.args.law.now ≡ 0 = search rules in
    let is : c.in_ok-multiples.multiples.items ≡ rescaled_law c.args.law.now c.args.total = search rules in
    subst IsLaw (sym is) (IsLaw-rescaled_law c.args.law.now c.args.total c.weights-weights.ensures.law c.requires.some c.requires.most none)

pub returns-clause-total : goal.returns-clause-total
returns-clause-total c =
    let none : c.args.total % sum c.args.law.now ≡ 0 = search rules in
    let is : c.in_ok-multiples.multiples.items ≡ rescaled_law c.args.law.now c.args.total = search rules in
    ap sum (c.in_ok-from_weights.ensures ∙ is) ∙ sum-rescaled_law c.args.law.now c.args.total none
