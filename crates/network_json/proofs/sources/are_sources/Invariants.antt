use Rattle.std.proofs.Common.{◌≡◌, map, drop}
use Rattle.std.specs.List.{list_all}
use Rattle.serde_json.specs.View.{view}
use Rattle.network_json.specs.Sources.{is_source}
use Rattle.network_json.proofs.sources.are_sources.Given as goal

abbrev pub invariant-loop-value : goal.invariant-loop-value
invariant-loop-value l = list_all is_source (map view l.list) ≡ list_all is_source (map view (drop l.value-index l.list))
