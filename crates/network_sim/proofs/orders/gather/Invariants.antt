use Rattle.std.proofs.Common.{◌≡◌, take, slice_set}
use Rattle.node_state.specs.Holdings.{with_claims}
use Rattle.network_sim.specs.Machine.{node, fronts}
use Rattle.network_sim.proofs.orders.gather.Given as goal

abbrev pub invariant-loop-slot : goal.invariant-loop-slot
invariant-loop-slot l = l.nodes ≡ slice_set l.initial.nodes l.i (with_claims (node l.initial.nodes l.i) (fronts l.initial.nodes (take l.slot l.callers)))
