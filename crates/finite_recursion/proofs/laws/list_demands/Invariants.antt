use Rattle.std.proofs.Common.{◌≤◌, take}
use Rattle.finite_recursion.proofs.Demands.{AreFirstDemands}
use Rattle.finite_recursion.proofs.laws.list_demands.Given as goal

abbrev pub invariant-loop-demand : goal.invariant-loop-demand
invariant-loop-demand l = record { few : l.count ≤ l.demand; demands : AreFirstDemands l.weights l.demand (take l.count l.listed) }
