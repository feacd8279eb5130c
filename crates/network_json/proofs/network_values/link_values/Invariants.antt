use Rattle.std.proofs.Common.{◌≡◌, map, take}
use Rattle.serde_json.specs.View.{view}
use Rattle.network_json.specs.Network.{link_data}
use Rattle.network_json.proofs.network_values.link_values.Given as goal

abbrev pub invariant-loop-link : goal.invariant-loop-link
invariant-loop-link l = map view l.values.items ≡ map (link_data l.nodes) (take l.link-index l.links)
