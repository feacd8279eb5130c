use Rattle.std.proofs.Common.{map, ◌∙◌, ap, arith}
use Rattle.std.proofs.lemmas.List.{take_all}
use Rattle.json_forms.specs.WrittenValues.{amount_data, amounts_data}
use Rattle.json_forms.proofs.WrittenLists.{view-list}
use Rattle.network_json.proofs.network_values.demands_value.Goals as goal

pub returns : goal.returns
unfolding amounts_data
returns c =
    view-list c.loop-demand.values _
    (c.loop-demand.invariant ∙ ap (map amount_data) (take_all c.loop-demand.demand-index c.args.demands.now (omega arith)))
