use Rattle.std.proofs.Common.{◌≡◌, map, take}
use Rattle.serde_json.specs.View.{view}
use Rattle.json_forms.specs.WrittenValues.{position_data}
use Rattle.json_forms.proofs.write_values.positions_value.Given as goal

abbrev pub invariant-loop-position : goal.invariant-loop-position
invariant-loop-position l = map view l.values.items ≡ map position_data (take l.position-index l.list)
