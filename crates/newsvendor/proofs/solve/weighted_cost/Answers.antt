use Rattle.std.proofs.Common.{◌+◌, ◌*◌, ◌≤◌, length, sum, slice_index, arith}
use Rattle.std.proofs.lemmas.Int.{ints}
use Rattle.newsvendor.specs.Item.{IsNewsvendor}
use Rattle.newsvendor.specs.CriticalRatio.{next_cost, next_small, cost_most}
use Rattle.newsvendor.proofs.solve.weighted_cost.Goals as goal
use Rattle.newsvendor.proofs.solve.weighted_cost.Goals.{After-cost_at_demand}

-- the cost with the next demand is small
next : (c : After-cost_at_demand) → c.loop-demand.cost + slice_index c.weights-weights.result.now c.loop-demand.demand * c.cost_at_demand.result ≤ 20002000000000000000
next c =
    let item = c.args.item.now in
    let inside = c.item.invariant in
    let ranges : IsNewsvendor item = rw (← c.item.view_is) c.item.invariant in
    let same = c.weights-weights.ensures.weights in
    let short : length c.weights-weights.result.now ≤ 10001 = rw same inside.greatest_in_range in
    let total : sum c.weights-weights.result.now ≤ 1000000000 = rw same inside.total_in_range in
    rw c.cost_at_demand.ensures (next_small item.holding item.stockout c.args.level c.loop-demand.demand c.loop-demand.cost c.weights-weights.result.now ranges.holding_in_range ranges.stockout_in_range c.requires short total c.loop-demand-test.true c.loop-demand.invariant)

pub overflow_mul-cost : goal.overflow_mul-cost
overflow_mul-cost c = omega (arith, next c)

pub overflow_add-cost : goal.overflow_add-cost
overflow_add-cost c = omega (arith, next c)

pub loop-demand-preserved : goal.loop-demand-preserved
loop-demand-preserved c =
    rw c.cost_at_demand.ensures
    (next_cost c.args.item.now.holding c.args.item.now.stockout c.args.level c.loop-demand.demand c.loop-demand.cost c.weights-weights.result.now c.loop-demand-test.true c.loop-demand.invariant)

pub returns-clause-small : goal.returns-clause-small
returns-clause-small c =
    let item = c.args.item.now in
    let inside = c.item.invariant in
    let ranges : IsNewsvendor item = rw (← c.item.view_is) c.item.invariant in
    let same = c.weights-weights.ensures.weights in
    let short : length c.weights-weights.result.now ≤ 10001 = rw same inside.greatest_in_range in
    let total : sum c.weights-weights.result.now ≤ 1000000000 = rw same inside.total_in_range in
    omega (arith, ints, c.loop-demand.invariant, cost_most item.holding item.stockout c.args.level c.loop-demand.demand c.weights-weights.result.now ranges.holding_in_range ranges.stockout_in_range c.requires short total)
