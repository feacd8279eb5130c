use Rattle.network_sim.proofs.EchelonPlaces.{IsFound}
use Rattle.network_sim.proofs.echelons.echelon_of.Given as goal

abbrev pub invariant-loop-node : goal.invariant-loop-node
invariant-loop-node l = IsFound l.network l.place l.node l.stock l.places.items
