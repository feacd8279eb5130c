use Rattle.std.proofs.Common.{rules, ◌≡◌, ◌*◌, ◌^◌, ◌<◌, pos, ◌-ℤ◌, ◌∙◌, ap, arith, to_z, of_z, w64, FitsSigned}
use mir.Syntax.{w128}
use Rattle.std.proofs.lemmas.Int.{ints, to_z-of_z}
use Rattle.decision_model.specs.DemandLaws.{common_total}
use Rattle.decision_model.specs.Finite.{finite_positions}
use Rattle.decision_model.specs.FiniteProblem.{end_cost}
use Rattle.decision_model.specs.WidthFacts.{finite_weights_upto}
use Rattle.value_cert.specs.FiniteValues.{end_value}
use Rattle.finite_recursion.proofs.Bounds.{at_near, place_last}
use Rattle.finite_recursion.proofs.Casts.{near}
use Rattle.finite_recursion.proofs.Places.{one_more, end_told, end_fits}
use Rattle.finite_recursion.proofs.Products.{low_wide}
use Rattle.finite_recursion.proofs.ends.end_row.Goals as goal

pub power-weight-requires : goal.power-weight-requires
power-weight-requires c =
    let finite = c.args.finite.now in
    omega (arith, ap (λ b. b ^ finite.lead) c.total.ensures, finite_weights_upto finite c.requires.valid.regular.readable c.requires.valid.width finite.lead (omega arith))

-- the place is one of the grid
inside : (c : goal.After-position_at) → c.loop-place.place < finite_positions c.args.finite.now
inside c = omega (arith, c.loop-place-test.true, c.requires.room)

-- its position
at_is : (c : goal.After-position_at) → to_z w64 (of_z w64 c.position_at.result) ≡ c.args.finite.now.cap -ℤ pos c.loop-place.place
at_is c =
    let finite = c.args.finite.now in
    let cap : FitsSigned w64 finite.cap = search rules in
    let is : c.position_at.result ≡ finite.cap -ℤ pos c.loop-place.place = c.position_at.ensures ∙ ap (λ z. z -ℤ pos c.loop-place.place) (to_z-of_z w64 finite.cap cap) in
    let small = at_near finite c.requires.valid (finite.cap -ℤ pos c.loop-place.place) (place_last finite c.requires.valid c.loop-place.place (inside c)) (omega (arith, ints)) in
    ap (λ z. to_z w64 (of_z w64 z)) is ∙ near (finite.cap -ℤ pos c.loop-place.place) (omega (arith, small))

pub end_cost-requires-clause-near : goal.end_cost-requires-clause-near
end_cost-requires-clause-near c =
    let finite = c.args.finite.now in
    let small = at_near finite c.requires.valid (finite.cap -ℤ pos c.loop-place.place) (place_last finite c.requires.valid c.loop-place.place (inside c)) (omega (arith, ints)) in
    rw (at_is c) small

weight_is : (c : goal.After-end_cost) → c.power-weight.result ≡ common_total c.args.finite.now.laws ^ c.args.finite.now.lead
weight_is c = c.power-weight.ensures ∙ ap (λ b. b ^ c.args.finite.now.lead) c.total.ensures

cost_is : (c : goal.After-end_cost) → pos c.end_cost.result ≡ end_cost c.args.finite.now (c.args.finite.now.cap -ℤ pos c.loop-place.place)
cost_is c = c.end_cost.ensures.cost ∙ ap (end_cost c.args.finite.now) (at_is c.before)

pub end_value-requires : goal.end_value-requires
end_value-requires c = end_fits c.args.finite.now c.requires.valid c.power-weight.result c.end_cost.result c.loop-place.place (weight_is c) (cost_is c) (inside c.before)

pub loop-place-preserved : goal.loop-place-preserved
loop-place-preserved c =
    let finite = c.args.finite.now in
    let fits = end_fits finite c.requires.valid c.power-weight.result c.end_cost.result c.loop-place.place (weight_is c.before) (cost_is c.before) (inside c.before.before) in
    let stored = ap (λ z. to_z w128 (of_z w128 z)) c.end_value.ensures ∙ low_wide (pos (c.power-weight.result * c.end_cost.result)) (omega (arith, ints)) (omega (arith, ints, fits)) in
    one_more (λ k z. z ≡ end_value finite (finite.cap -ℤ pos k)) c.loop-place.values c.loop-place.place (to_z w128 (of_z w128 c.end_value.result)) (omega (arith, c.loop-place-test.true))
    (end_told finite c.power-weight.result c.end_cost.result c.loop-place.place (to_z w128 (of_z w128 c.end_value.result)) (weight_is c.before) (cost_is c.before) stored) c.loop-place.invariant

pub returns-clause-values : goal.returns-clause-values
returns-clause-values c = λ k lt. c.loop-place.invariant k (omega (arith, lt, c.requires.room, c.loop-place-test.false))
