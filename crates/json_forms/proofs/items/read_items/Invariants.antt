use Rattle.std.proofs.Common.{◌≡◌, ◌+◌, ◌++◌, All, Ok, map, drop, length}
use Rattle.serde_json.specs.View.{view}
use Rattle.json_forms.specs.Steps.{◌>>=◌}
use Rattle.json_forms.specs.Items.{items_from}
use Rattle.json_forms.proofs.items.read_items.Given as goal

abbrev pub invariant-loop-object : goal.invariant-loop-object
invariant-loop-object g l = record {
  left : items_from l.list 1 (g.F.ItemForm.reading l.form) (map view l.objects) ≡ (items_from l.list l.place (g.F.ItemForm.reading l.form) (map view (drop l.object-index l.objects)) >>= λ rest. Ok (l.items.items ++ rest));
  place : l.place ≡ l.object-index + 1;
  each : All (g.F.ItemForm.holds l.form) l.items.items;
  count : length l.items.items ≡ l.object-index;
}
