use Rattle.std.proofs.Common.{◌≡◌, ℕ, ◌+◌, List, ◌∙◌, ap, arith}
use Rattle.std.proofs.lemmas.Result.{IfOk-weaker}
use Rattle.trial_instances.specs.Numbers.{numbers}
use Rattle.demand_law.specs.Points.{points_fault, points_law}
use Rattle.trial_instances.specs.NumberFacts.{number_in_range}
use Rattle.trial_instances.proofs.PointLaws.{points, law_of_points, no_fault_of_points, few_weights}
use Rattle.trial_instances.proofs.laws.drawn_law.Goals as goal

pub overflow_cast-weight : goal.overflow_cast-weight
overflow_cast-weight c = omega (arith, few_weights c.args.count c.args.most c.requires.some c.requires.fits, (number_in_range c.args.trial (c.args.place + c.from.result) 1 c.args.most c.requires.positive).most_least, c.number-weight.ensures.value)

pub law_of-requires : goal.law_of-requires
law_of-requires c =
    let whole : c.loop-demand.demand ≡ c.args.count = omega (arith, c.loop-demand-test.false, c.loop-demand.auto.demand-end) in
    ap points_fault (c.deref.ensures.value ∙ c.loop-demand.invariant ∙ ap (points c.args.trial c.args.place c.args.most) whole)
    ∙ no_fault_of_points c.args.trial c.args.place c.args.most c.args.count c.requires.some c.requires.few c.requires.positive c.requires.fits

pub returns : goal.returns
returns c =
    let made = points c.args.trial c.args.place c.args.most c.args.count in
    let weights = numbers c.args.trial c.args.place c.args.count 1 c.args.most in
    let whole : c.loop-demand.demand ≡ c.args.count = omega (arith, c.loop-demand-test.false, c.loop-demand.auto.demand-end) in
    let same : c.deref.result.now ≡ made = c.deref.ensures.value ∙ c.loop-demand.invariant ∙ ap (points c.args.trial c.args.place c.args.most) whole in
    let P : List ℕ → Type 0 = λ law. law ≡ points_law c.deref.result.now in
    let Q : List ℕ → Type 0 = λ law. law ≡ weights in
    IfOk-weaker c.law_of.result P Q (λ law is. is ∙ ap points_law same ∙ law_of_points c.args.trial c.args.place c.args.most c.args.count) c.law_of.ensures
