use Rattle.std.proofs.Common.{◌≡◌, map, drop}
use Rattle.std.specs.List.{list_all}
use Rattle.serde_json.specs.View.{view}
use Rattle.serde_json.specs.Find.{get}
use Rattle.network_json.specs.Sources.{is_number}
use Rattle.network_json.proofs.order_rules.are_numbers.Given as goal

abbrev pub invariant-loop-name : goal.invariant-loop-name
invariant-loop-name l =
    list_all (λ name. is_number (get name (view l.object))) (map (λ name. name.now) l.names) ≡ list_all (λ name. is_number (get name (view l.object))) (map (λ name. name.now) (drop l.name-index l.names))
