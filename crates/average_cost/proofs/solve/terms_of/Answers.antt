use Rattle.std.proofs.Common.{◌≡◌, ◌∙◌, ◌-◌, ◌*◌, ◌^◌, sum, length, min, ap, arith}
use Rattle.decision_model.specs.WidthFacts.{average_positions_some}
use Rattle.value_cert.specs.AverageValues.{moving}
use Rattle.average_cost.specs.Moves.{moves_upto}
use Rattle.average_lemmas.specs.LeadWeights.{weights_fit, unit_is, unit_fits, moving_is}
use Rattle.average_cost.proofs.SolveFacts.{below_fits, moving_fits}
use Rattle.average_cost.proofs.solve.terms_of.Goals as goal

pub power-weights-requires : goal.power-weights-requires
power-weights-requires c = let fits = weights_fit c.args.item.now c.requires in rw c.total-total.ensures (omega (arith, fits))

pub list_moves-requires-clause-many : goal.list_moves-requires-clause-many
list_moves-requires-clause-many c = omega (arith, c.positions-count.ensures.positions, average_positions_some c.args.item.now c.requires.regular.readable)

pub list_moves-requires-clause-fits : goal.list_moves-requires-clause-fits
list_moves-requires-clause-fits c =
    let fits = moving_fits c.args.item.now c.requires in
    rw (c.total-total.ensures, c.weight.ensures, c.positions-count.ensures.positions, moving_is c.args.item.now c.requires) (omega (arith, fits))

pub overflow_mul-result : goal.overflow_mul-result
overflow_mul-result c = let fits = unit_fits c.args.item.now c.requires in rw (c.power-weights.ensures, c.total-total.ensures) (omega (arith, fits))

pub overflow_mul-result-2 : goal.overflow_mul-result-2
overflow_mul-result-2 c = let fits = below_fits c.args.item.now c.requires in rw (c.power-weights.ensures, c.total-total.ensures, c.from.ensures) (omega (arith, fits))

pub returns : goal.returns
returns c =
    let all : c.total-total.result - c.weight.result ≡ sum (moving c.args.item.now.law) = (λ i. c.total-total.ensures i - c.weight.ensures i) ∙ moving_is c.args.item.now c.requires in
    let weights : c.power-weights.result ≡ sum c.args.item.now.law ^ c.args.item.now.lead = c.power-weights.ensures ∙ ap (λ w. w ^ c.args.item.now.lead) c.total-total.ensures in
    record {
      moves = c.in_ok-list_moves.ensures ∙ (λ i. moves_upto (c.weights.ensures.weights i) (all i) (min (c.positions-count.ensures.positions i - 1) (length (c.weights.ensures.weights i) - 1)));
      lead = c.in_ok-lead_demand.ensures;
      all_moving = all;
      unit = (λ i. weights i * c.total-total.ensures i) ∙ unit_is c.args.item.now c.requires;
      below = λ i. c.from.ensures i * weights i;
      count = c.positions-count.ensures.positions;
    }
