use Rattle.std.proofs.Common.{◌≡◌, ◌≤◌, All, ◌++◌, Ok, map, drop}
use Rattle.serde_json.specs.View.{view}
use Rattle.network_model.specs.Limits.{most_trace}
use Rattle.json_forms.specs.Steps.{◌>>=◌, each}
use Rattle.json_forms.specs.Numbers.{amount_in}
use Rattle.network_json.proofs.nodes.listed_demands.Given as goal

abbrev pub invariant-loop-value : goal.invariant-loop-value
invariant-loop-value l = record {
  left : each (amount_in 0 most_trace) (map view l.list) ≡ (each (amount_in 0 most_trace) (map view (drop l.value-index l.list)) >>= λ rest. Ok (l.demands.items ++ rest));
  range : All (λ n. n ≤ most_trace) l.demands.items;
}
