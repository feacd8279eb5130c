use Rattle.std.proofs.Common.{◌≡◌, map, take}
use Rattle.serde_json.specs.View.{view}
use Rattle.json_forms.specs.WrittenValues.{law_data}
use Rattle.json_forms.proofs.write_values.law_values.Given as goal

abbrev pub invariant-loop-law : goal.invariant-loop-law
invariant-loop-law l = map view l.values.items ≡ map law_data (take l.law-index l.laws)
