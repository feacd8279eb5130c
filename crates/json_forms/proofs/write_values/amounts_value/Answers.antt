use Rattle.std.proofs.Common.{map, ◌∙◌, ap, arith}
use Rattle.std.proofs.lemmas.List.{take_all}
use Rattle.json_forms.specs.WrittenValues.{amount_data, amounts_data}
use Rattle.json_forms.proofs.WrittenLists.{view-list}
use Rattle.json_forms.proofs.write_values.amounts_value.Goals as goal

pub returns : goal.returns
unfolding amounts_data
returns c =
    view-list c.loop-amount.values _
    (c.loop-amount.invariant ∙ ap (map amount_data) (take_all c.loop-amount.amount-index c.args.list.now (omega arith)))
