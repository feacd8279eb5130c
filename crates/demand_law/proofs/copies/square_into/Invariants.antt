use Rattle.demand_law.proofs.Squares.{SquaresSoFar}
use Rattle.demand_law.proofs.copies.square_into.Given as goal

abbrev pub invariant-loop-d : goal.invariant-loop-d
invariant-loop-d l = SquaresSoFar l.law l.d l.sums
