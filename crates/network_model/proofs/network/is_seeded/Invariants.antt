use Rattle.std.proofs.Common.{◌≡◌, drop, not}
use Rattle.std.specs.List.{list_all}
use Rattle.network_model.specs.declared.network.NodeSpec.{NodeSpec}
use Rattle.network_model.specs.Network.{is_drawn}
use Rattle.network_model.proofs.network.is_seeded.Given as goal

abbrev pub invariant-loop-node : goal.invariant-loop-node
invariant-loop-node l = list_all (λ (n : NodeSpec). not (is_drawn n.demand)) l.network.nodes ≡ list_all (λ (n : NodeSpec). not (is_drawn n.demand)) (drop l.node-index l.network.nodes)
