use Rattle.std.proofs.Common.{◌≡◌, ◌++◌, Ok, map, drop}
use Rattle.serde_json.specs.View.{view}
use Rattle.json_forms.specs.Steps.{◌>>=◌, each}
use Rattle.json_forms.specs.LawTexts.{point_in}
use Rattle.json_forms.proofs.law_texts.points.Given as goal

abbrev pub invariant-loop-value : goal.invariant-loop-value
invariant-loop-value l = each point_in (map view l.list) ≡ (each point_in (map view (drop l.value-index l.list)) >>= λ rest. Ok (l.points.items ++ rest))
