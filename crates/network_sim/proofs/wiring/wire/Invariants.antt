use Rattle.network_sim.proofs.Wired.{AreEntered}
use Rattle.network_sim.proofs.wiring.wire.Given as goal

abbrev pub invariant-loop-node : goal.invariant-loop-node
invariant-loop-node l = AreEntered l.network.nodes l.node l.callers.items l.suppliers.items
