use Rattle.std.proofs.Common.{◌≡◌, map, take}
use Rattle.serde_json.specs.View.{view}
use Rattle.json_forms.specs.WrittenValues.{amount_data}
use Rattle.json_forms.proofs.write_values.amounts_value.Given as goal

abbrev pub invariant-loop-amount : goal.invariant-loop-amount
invariant-loop-amount l = map view l.values.items ≡ map amount_data (take l.amount-index l.list)
