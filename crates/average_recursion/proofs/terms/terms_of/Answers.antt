use Rattle.std.proofs.Common.{◌≡◌, ◌∙◌, ◌-◌, ◌*◌, ◌^◌, sum, ap, arith}
use Rattle.decision_model.specs.Average.{average_positions}
use Rattle.decision_model.specs.WidthFacts.{average_positions_some}
use Rattle.value_cert.specs.AverageValues.{moving}
use Rattle.average_lemmas.specs.LeadWeights.{weights_fit, unit_is, unit_fits, moving_is}
use Rattle.average_lemmas.specs.PlaceSizes.{power_fits}
use Rattle.average_recursion.proofs.terms.terms_of.Goals as goal

pub power-weights-requires : goal.power-weights-requires
power-weights-requires c = let fits = weights_fit c.args.average.now c.requires in rw c.total-total.ensures (omega (arith, fits))

pub overflow_mul-result : goal.overflow_mul-result
overflow_mul-result c = let fits = unit_fits c.args.average.now c.requires in rw (c.power-weights.ensures, c.total-total.ensures) (omega (arith, fits))

pub overflow_sub-positions : goal.overflow_sub-positions
overflow_sub-positions c = omega (arith, c.positions-positions.ensures.positions, average_positions_some c.args.average.now c.requires.regular.readable)

pub power-requires : goal.power-requires
power-requires c =
    let some = average_positions_some c.args.average.now c.requires.regular.readable in
    let fits = power_fits c.args.average.now c.requires (average_positions c.args.average.now - 1) (omega (arith, some)) in
    rw (c.total-total.ensures, c.weight.ensures, c.positions-positions.ensures.positions, moving_is c.args.average.now c.requires) (omega (arith, fits))

pub returns : goal.returns
returns c =
    let all : c.total-total.result - c.weight.result ≡ sum (moving c.args.average.now.law) = (λ i. c.total-total.ensures i - c.weight.ensures i) ∙ moving_is c.args.average.now c.requires in
    let weights : c.power-weights.result ≡ sum c.args.average.now.law ^ c.args.average.now.lead = c.power-weights.ensures ∙ ap (λ w. w ^ c.args.average.now.lead) c.total-total.ensures in
    record {
      positions = c.positions-positions.ensures.positions;
      all_moving = all;
      weights = weights;
      unit = (λ i. weights i * c.total-total.ensures i) ∙ unit_is c.args.average.now c.requires;
      last = c.power.ensures ∙ (λ i. all i ^ (c.positions-positions.ensures.positions i - 1));
    }
