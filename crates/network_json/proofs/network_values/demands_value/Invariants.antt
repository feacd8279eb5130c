use Rattle.std.proofs.Common.{◌≡◌, map, take}
use Rattle.serde_json.specs.View.{view}
use Rattle.json_forms.specs.WrittenValues.{amount_data}
use Rattle.network_json.proofs.network_values.demands_value.Given as goal

abbrev pub invariant-loop-demand : goal.invariant-loop-demand
invariant-loop-demand l = map view l.values.items ≡ map amount_data (take l.demand-index l.demands)
