use Rattle.std.proofs.Common.{◌≡◌, map, drop}
use Rattle.serde_json.specs.View.{members_view}
use Rattle.json_forms.specs.WrittenValues.{amount_data}
use Rattle.json_forms.specs.Members.{put_all}
use Rattle.json_forms.proofs.write_values.put_amounts.Given as goal

abbrev pub invariant-loop-key : goal.invariant-loop-key
invariant-loop-key l =
    put_all (map (λ m. (m.0.now, amount_data m.1)) (drop l.key-index l.amounts)) (members_view l.members.entries) ≡ put_all (map (λ m. (m.0.now, amount_data m.1)) l.amounts) (members_view l.fn.members.entries)
