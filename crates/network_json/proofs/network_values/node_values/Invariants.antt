use Rattle.std.proofs.Common.{◌≡◌, map, take}
use Rattle.serde_json.specs.View.{view}
use Rattle.network_json.specs.Network.{node_data}
use Rattle.network_json.proofs.network_values.node_values.Given as goal

abbrev pub invariant-loop-node : goal.invariant-loop-node
invariant-loop-node l = map view l.values.items ≡ map (node_data l.nodes) (take l.node-index l.nodes)
