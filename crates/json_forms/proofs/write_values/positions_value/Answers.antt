use Rattle.std.proofs.Common.{map, ◌∙◌, ap, arith}
use Rattle.std.proofs.lemmas.List.{take_all}
use Rattle.json_forms.specs.WrittenValues.{position_data, positions_data}
use Rattle.json_forms.proofs.WrittenLists.{view-list}
use Rattle.json_forms.proofs.write_values.positions_value.Goals as goal

pub returns : goal.returns
unfolding positions_data
returns c =
    view-list c.loop-position.values _
    (c.loop-position.invariant ∙ ap (map position_data) (take_all c.loop-position.position-index c.args.list.now (omega arith)))
