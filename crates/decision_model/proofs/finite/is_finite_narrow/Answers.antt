use Rattle.std.proofs.Common.{◌≡◌, ◌+◌, ◌^◌}
use Rattle.decision_model.specs.DemandLaws.{common_total}
use Rattle.decision_model.specs.Finite.{finite_cost_bound, finite_width}
use Rattle.decision_model.specs.WidthFacts.{finite_weights_fit, finite_discounts_fit}
use Rattle.decision_model.proofs.Narrow.{refused, decided, regroup_four}
use Rattle.decision_model.proofs.finite.is_finite_narrow.Goals as goal

pub returns-in_default : goal.returns-in_default
returns-in_default c =
    let finite = c.args.finite.now in
    refused _ _ (finite.periods + finite.lead) (finite_width finite) c.total.ensures c.in_default.ensures (finite_weights_fit finite c.requires.readable)

pub returns-in_default-checked_pow : goal.returns-in_default-checked_pow
returns-in_default-checked_pow c =
    let finite = c.args.finite.now in
    refused _ _ finite.periods (finite_width finite) c.from.ensures c.in_default-checked_pow.ensures (finite_discounts_fit finite c.requires.readable)

pub returns : goal.returns
unfolding finite_width
returns c =
    let finite = c.args.finite.now in
    let weights : c.in-Some.weights ≡ common_total finite.laws ^ (finite.periods + finite.lead) = rw c.total.ensures at c.in-Some.ensures.1 in
    let discounts : c.in-Some-checked_pow.discounts ≡ finite.discount_den ^ finite.periods = rw c.from.ensures at c.in-Some-checked_pow.ensures.1 in
    decided c.within.result _ (finite_width finite) c.within.ensures
    (rw (c.from-2.ensures, c.finite_cost_bound-cost.ensures.bound, weights, discounts) (regroup_four finite.periods (finite_cost_bound finite) _ _))
