use Rattle.std.proofs.Common.{◌≡◌, map, string_bytes}
use Rattle.serde_json.specs.View.{view}
use Rattle.serde_json.specs.Find.{as_object}
use Rattle.json_forms.specs.Keys.{row_of, each_known, all_known}
use Rattle.json_forms.proofs.keys.all_known.Given as goal

abbrev pub invariant-loop-key : goal.invariant-loop-key
invariant-loop-key l = all_known (map row_of l.rows) (as_object (view l.object)) ≡ each_known (map row_of l.rows) (map string_bytes l.key-iterator)
