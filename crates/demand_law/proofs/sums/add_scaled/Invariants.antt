use Rattle.demand_law.proofs.Convolved.{AddsSoFar}
use Rattle.demand_law.proofs.sums.add_scaled.Given as goal

abbrev pub invariant-loop-d : goal.invariant-loop-d
invariant-loop-d l = AddsSoFar l.initial.sums l.sums l.at l.factor l.law l.d
