use Rattle.std.proofs.Common.{◌≡◌, map, drop}
use Rattle.serde_json.specs.View.{view}
use Rattle.json_forms.specs.Keys.{row_of, all_present}
use Rattle.json_forms.proofs.keys.all_present.Given as goal

abbrev pub invariant-loop-row : goal.invariant-loop-row
invariant-loop-row l = all_present (map row_of l.rows) (view l.object) ≡ all_present (map row_of (drop l.row-index l.rows)) (view l.object)
