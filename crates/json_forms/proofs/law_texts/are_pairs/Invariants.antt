use Rattle.std.proofs.Common.{◌≡◌, map, drop}
use Rattle.std.specs.List.{list_all}
use Rattle.serde_json.specs.View.{view}
use Rattle.json_forms.specs.LawTexts.{is_tuple}
use Rattle.json_forms.proofs.law_texts.are_pairs.Given as goal

abbrev pub invariant-loop-value : goal.invariant-loop-value
invariant-loop-value l = list_all (is_tuple l.test 2) (map view l.list) ≡ list_all (is_tuple l.test 2) (map view (drop l.value-index l.list))
