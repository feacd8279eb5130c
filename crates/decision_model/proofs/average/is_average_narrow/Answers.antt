use Rattle.std.proofs.Common.{◌≡◌, ◌+◌, ◌-◌, ◌*◌, ◌^◌, sum, slice_index, arith}
use Rattle.decision_model.specs.Average.{average_positions, average_cost_bound, average_width}
use Rattle.decision_model.specs.WidthFacts.{average_positions_some, average_weights_fit, average_moving_fit}
use Rattle.decision_model.proofs.Narrow.{refused, decided, regroup_average}
use Rattle.decision_model.proofs.average.is_average_narrow.Goals as goal

pub returns-in_default : goal.returns-in_default
returns-in_default c =
    let average = c.args.average.now in
    refused _ _ (2 * average.lead + 2) (average_width average) c.total-total.ensures c.in_default.ensures (average_weights_fit average c.requires.readable c.requires.has_demand)

pub overflow_sub-positions : goal.overflow_sub-positions
overflow_sub-positions c = omega (arith, c.positions-positions.ensures.positions, average_positions_some c.args.average.now c.requires.readable)

pub returns-in_default-checked_pow : goal.returns-in_default-checked_pow
returns-in_default-checked_pow c =
    let average = c.args.average.now in
    refused (c.total-total.result - c.weight.result) (sum average.law - slice_index average.law 0) (2 * average_positions average - 2) (average_width average) (cc)
    (rw c.positions-positions.ensures.positions at c.in_default-checked_pow.ensures)
    (average_moving_fit average c.requires.readable)

pub returns : goal.returns
unfolding average_width
returns c =
    let average = c.args.average.now in
    let positions = c.positions-positions.ensures.positions in
    let weights : c.in-Some.weights ≡ sum average.law ^ (2 * average.lead + 2) = rw c.total-total.ensures at c.in-Some.ensures.1 in
    let moving : c.in-Some-checked_pow.moving ≡ (sum average.law - slice_index average.law 0) ^ (2 * average_positions average - 2) = rw (c.total-total.ensures, c.weight.ensures, positions) at c.in-Some-checked_pow.ensures.1 in
    decided c.within.result _ (average_width average) c.within.ensures
    (rw (c.from-positions.ensures, positions, c.from.ensures, c.average_cost_bound.ensures.bound, weights, moving) (regroup_average (average_positions average) (average.setup + average_cost_bound average) _ _))
