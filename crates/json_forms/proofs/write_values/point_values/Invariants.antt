use Rattle.std.proofs.Common.{◌≡◌, ◌++◌, map, drop}
use Rattle.serde_json.specs.View.{view}
use Rattle.json_forms.specs.WrittenValues.{points_from, point_data}
use Rattle.json_forms.proofs.write_values.point_values.Given as goal

abbrev pub invariant-loop-demand : goal.invariant-loop-demand
invariant-loop-demand l =
    map view l.points.items ++ map point_data (points_from l.demand (drop l.demand l.weights)) ≡ map point_data (points_from 0 l.weights)
