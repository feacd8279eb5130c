use Rattle.std.proofs.Common.{◌≡◌, ◌++◌, ◌≤◌, [], Ok, map, drop, length, sum, All}
use Rattle.std.specs.Option.{IfSome, MatchOption}
use Rattle.serde_json.specs.View.{view}
use Rattle.model_terms.specs.DemandLaws.{IsDemandLaw}
use Rattle.json_forms.specs.Steps.{◌>>=◌}
use Rattle.json_forms.specs.LawTexts.{scaled_laws}
use Rattle.json_forms.proofs.laws.scaled_laws.Given as goal

abbrev pub invariant-loop-value : goal.invariant-loop-value
invariant-loop-value l = record {
  left : scaled_laws l.fn.total (map view l.list) ≡ (scaled_laws l.common (map view (drop l.value-index l.list)) >>= λ rest. Ok (l.laws.items ++ rest));
  some : IfSome l.common (λ n. 1 ≤ n);
  most : IfSome l.common (λ n. n ≤ 1000000000);
  each : All IsDemandLaw l.laws.items;
  common : MatchOption l.common (l.laws.items ≡ []) (λ n. All (λ law. sum law ≡ n) l.laws.items);
  count : length l.laws.items ≡ l.value-index;
}
