use Rattle.std.proofs.Common.{◌≡◌, take, slice_set}
use Rattle.network_sim.specs.Machine.{node}
use Rattle.network_sim.specs.Supply.{with_arrived, shipments}
use Rattle.network_sim.proofs.supply.receive_all.Given as goal

abbrev pub invariant-loop-source : goal.invariant-loop-source
invariant-loop-source l = l.nodes ≡ slice_set l.initial.nodes l.i (with_arrived l.paused (node l.initial.nodes l.i) (shipments l.initial.nodes l.i 0 (take l.source l.suppliers)))
