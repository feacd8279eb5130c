use Rattle.std.proofs.Common.{◌^◌}
use Rattle.demand_law.proofs.Squares.{pairs_fit, itself_fits, squares_more}
use Rattle.demand_law.proofs.copies.square_into.Goals as goal

pub add_scaled-requires-clause-fits : goal.add_scaled-requires-clause-fits
add_scaled-requires-clause-fits c =
    pairs_fit c.args.law.now c.loop-d.d c.loop-d-test.true (2 ^ 120) c.requires.fits c.loop-d.sums c.loop-d.invariant

pub add_scaled-requires-in-loop-d-clause-fits : goal.add_scaled-requires-in-loop-d-clause-fits
add_scaled-requires-in-loop-d-clause-fits c =
    itself_fits c.args.law.now c.loop-d.d c.loop-d-test.true (2 ^ 120) c.requires.fits c.loop-d.sums c.add_scaled.new.sums c.loop-d.invariant c.add_scaled.ensures

pub loop-d-preserved : goal.loop-d-preserved
loop-d-preserved c =
    squares_more c.args.law.now c.loop-d.d c.loop-d-test.true c.loop-d.sums c.add_scaled.new.sums c.add_scaled-in-loop-d.new.sums c.loop-d.invariant c.add_scaled.ensures c.add_scaled-in-loop-d.ensures
