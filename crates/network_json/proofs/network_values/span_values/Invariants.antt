use Rattle.std.proofs.Common.{◌≡◌, map, take}
use Rattle.serde_json.specs.View.{view}
use Rattle.network_json.specs.Network.{span_data}
use Rattle.network_json.proofs.network_values.span_values.Given as goal

abbrev pub invariant-loop-span : goal.invariant-loop-span
invariant-loop-span l = map view l.values.items ≡ map (span_data l.nodes) (take l.span-index l.spans)
