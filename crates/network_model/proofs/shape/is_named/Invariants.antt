use Rattle.std.proofs.Common.{◌≡◌, drop}
use Rattle.std.specs.List.{list_any}
use Rattle.std.specs.Str.{bytes_eq}
use Rattle.network_model.specs.declared.network.NodeSpec.{NodeSpec}
use Rattle.network_model.proofs.shape.is_named.Given as goal

abbrev pub invariant-loop-node : goal.invariant-loop-node
invariant-loop-node l = list_any (λ (n : NodeSpec). bytes_eq n.name l.name) l.nodes ≡ list_any (λ (n : NodeSpec). bytes_eq n.name l.name) (drop l.node-index l.nodes)
