use Rattle.std.proofs.Common.{◌+◌, ◌^◌, arith}
use Rattle.demand_law.proofs.Convolved.{adds_more, adds_fits}
use Rattle.demand_law.proofs.sums.add_scaled.Goals as goal

pub overflow_mul-sums : goal.overflow_mul-sums
overflow_mul-sums c =
    omega (arith, adds_fits c.args.sums.now c.loop-d.sums c.args.at c.args.factor c.args.law.now c.loop-d.d c.loop-d-test.true c.loop-d.invariant (2 ^ 120) (c.requires.fits (c.args.at + c.loop-d.d)))

pub overflow_add-sums-in-loop-d : goal.overflow_add-sums-in-loop-d
overflow_add-sums-in-loop-d c =
    omega (arith, adds_fits c.args.sums.now c.loop-d.sums c.args.at c.args.factor c.args.law.now c.loop-d.d c.loop-d-test.true c.loop-d.invariant (2 ^ 120) (c.requires.fits (c.args.at + c.loop-d.d)))

pub loop-d-preserved : goal.loop-d-preserved
loop-d-preserved c =
    adds_more c.args.sums.now c.loop-d.sums c.args.at c.args.factor c.args.law.now c.loop-d.d c.loop-d-test.true c.loop-d.invariant (omega arith)
