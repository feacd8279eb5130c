use Rattle.std.proofs.Common.{◌≡◌, All, ◌++◌, Ok, map, drop}
use Rattle.serde_json.specs.View.{view}
use Rattle.network_model.specs.Nodes.{IsReadableLink}
use Rattle.json_forms.specs.Steps.{◌>>=◌, each}
use Rattle.network_json.specs.Sources.{source_in}
use Rattle.network_json.proofs.sources.listed_sources.Given as goal

abbrev pub invariant-loop-value : goal.invariant-loop-value
invariant-loop-value l = record {
  left : each (source_in l.names) (map view l.list) ≡ (each (source_in l.names) (map view (drop l.value-index l.list)) >>= λ rest. Ok (l.links.items ++ rest));
  range : All IsReadableLink l.links.items;
}
