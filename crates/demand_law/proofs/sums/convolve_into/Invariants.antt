use Rattle.demand_law.proofs.Convolved.{SumsSoFar}
use Rattle.demand_law.proofs.sums.convolve_into.Given as goal

abbrev pub invariant-loop-d : goal.invariant-loop-d
invariant-loop-d l = SumsSoFar l.first l.second l.d l.sums
