use Rattle.std.proofs.Common.{◌≡◌, ◌≤◌, All, ◌++◌, Ok, map, drop}
use Rattle.serde_json.specs.View.{view}
use Rattle.json_forms.specs.Steps.{◌>>=◌, each}
use Rattle.json_forms.specs.Numbers.{amount_in}
use Rattle.json_forms.proofs.numbers.listed_amounts.Given as goal

abbrev pub invariant-loop-value : goal.invariant-loop-value
invariant-loop-value l = record {
  left : each (amount_in 0 l.most) (map view l.list) ≡ (each (amount_in 0 l.most) (map view (drop l.value-index l.list)) >>= λ rest. Ok (l.numbers.items ++ rest));
  range : All (λ n. n ≤ l.most) l.numbers.items;
}
