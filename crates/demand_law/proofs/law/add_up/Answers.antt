use Rattle.std.proofs.Common.{◌≡◌, length, arith}
use Rattle.demand_law.proofs.RunningSums.{added_up, added_whole, added_fits}
use Rattle.demand_law.proofs.law.add_up.Goals as goal

pub overflow_add-sum : goal.overflow_add-sum
overflow_add-sum c =
    added_fits c.args.weights.now c.loop-place.weights c.loop-place.place c.loop-place.sum c.loop-place-test.true c.requires c.loop-place.invariant

pub loop-place-preserved : goal.loop-place-preserved
loop-place-preserved c =
    added_up c.args.weights.now c.loop-place.weights c.loop-place.place c.loop-place.sum c.loop-place-test.true c.loop-place.invariant

pub returns : goal.returns
returns c =
    let all : c.loop-place.place ≡ length c.args.weights.now = omega (arith, c.loop-place-test.false, c.loop-place.auto.place-end) in
    added_whole c.args.weights.now c.loop-place.weights c.loop-place.place c.loop-place.sum all c.loop-place.invariant
