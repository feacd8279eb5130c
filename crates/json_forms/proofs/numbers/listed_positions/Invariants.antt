use Rattle.std.proofs.Common.{◌≡◌, All, ◌++◌, Ok, map, drop}
use Rattle.model_terms.specs.Positions.{IsPosition}
use Rattle.serde_json.specs.View.{view}
use Rattle.json_forms.specs.Steps.{◌>>=◌, each}
use Rattle.json_forms.specs.Numbers.{position_in}
use Rattle.json_forms.proofs.numbers.listed_positions.Given as goal

abbrev pub invariant-loop-value : goal.invariant-loop-value
invariant-loop-value l = record {
  left : each position_in (map view l.list) ≡ (each position_in (map view (drop l.value-index l.list)) >>= λ rest. Ok (l.numbers.items ++ rest));
  range : All IsPosition l.numbers.items;
}
