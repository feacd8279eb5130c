use Rattle.std.proofs.Common.{◌≡◌, ◌*◌, ◌^◌, ◌≤◌, sum, [], take, drop}
use Rattle.demand_law.specs.Points.{first_fault}
use Rattle.demand_law.proofs.PointsPlaced.{State}
use Rattle.demand_law.proofs.law.Law.from_points.Given as goal

abbrev pub invariant-loop-demand : goal.invariant-loop-demand
invariant-loop-demand l = record {
  state : State (take l.demand-index l.points) l.weights.items;
  total : l.total ≡ sum l.weights.items;
  bound : l.total ≤ l.demand-index * 2 ^ 32;
  fault : first_fault (take l.demand-index l.points) (drop l.demand-index l.points) ≡ first_fault [] l.points;
}
