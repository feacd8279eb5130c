use Rattle.std.proofs.Common.{◌^◌, arith}
use Rattle.demand_law.proofs.Convolved.{sums_fit, sums_more, sums_all}
use Rattle.demand_law.proofs.sums.convolve_into.Goals as goal

pub add_scaled-requires-clause-fits : goal.add_scaled-requires-clause-fits
add_scaled-requires-clause-fits c = sums_fit c.args.first.now c.args.second.now c.loop-d.d c.loop-d.sums c.loop-d-test.true c.loop-d.invariant (2 ^ 120) c.requires.fits

pub loop-d-preserved : goal.loop-d-preserved
loop-d-preserved c = sums_more c.args.first.now c.args.second.now c.loop-d.d c.loop-d.sums c.loop-d-test.true c.loop-d.invariant c.add_scaled.new.sums c.add_scaled.ensures

pub returns : goal.returns
returns c = sums_all c.args.first.now c.args.second.now c.loop-d.d c.loop-d.sums c.requires.first_some c.requires.second_some (omega arith) c.loop-d-test.false c.loop-d.invariant
