use Rattle.std.proofs.Common.{◌∙◌, length, map, slice_index, ap, arith, pos, ◌-ℤ◌, refl}
use Rattle.std.specs.List.{range_with_len}
use Rattle.decision_model.specs.Average.{average_positions}
use Rattle.value_cert.specs.AverageRules.{first_cheap, first_zero}
use Rattle.value_cert.specs.AverageValues.{at_place}
use Rattle.average_lemmas.specs.Entries.{length-lower, length-upper}
use Rattle.average_cost.specs.Cells.{cell_at}
use Rattle.average_cost.specs.Turns.{ratio_of}
use Rattle.average_cost.proofs.SolveFacts.{pair_within, place_back, low_back, whole}
use Rattle.average_cost.proofs.solve.certificate.Goals as goal

pub list_cells-requires-clause-lower : goal.list_cells-requires-clause-lower
list_cells-requires-clause-lower c = ap length (c.deref.ensures.value ∙ c.in_ok-zero.ensures.entries) ∙ length-lower c.args.item.now (ratio_of c.in_ok-g.g) (average_positions c.args.item.now)

pub list_cells-requires-clause-upper : goal.list_cells-requires-clause-upper
list_cells-requires-clause-upper c = ap length (c.deref-2.ensures.value ∙ c.in_ok-upper_table.ensures) ∙ length-upper c.args.item.now (ratio_of c.in_ok-g.g) (at_place c.args.item.now (first_cheap c.args.item.now (ratio_of c.in_ok-g.g)) -ℤ pos 1) (average_positions c.args.item.now)

pub position_of-requires-clause-within : goal.position_of-requires-clause-within
position_of-requires-clause-within c = omega (arith, c.first_cheap-first.ensures, (pair_within c.args.item.now c.requires (ratio_of c.in_ok-g.g) c.in_ok-g.ensures).0)

pub position_of-requires-2-clause-within : goal.position_of-requires-2-clause-within
position_of-requires-2-clause-within c = omega (arith, c.in_ok-zero.ensures.zero, (pair_within c.args.item.now c.requires (ratio_of c.in_ok-g.g) c.in_ok-g.ensures).1)

pub returns : goal.returns
returns c =
    let item = c.args.item.now in
    let g = ratio_of c.in_ok-g.g in
    let within = pair_within item c.requires g c.in_ok-g.ensures in
    let low = low_back item c.requires c.position_of.result (first_cheap item g) (c.position_of.ensures ∙ ap (at_place item) c.first_cheap-first.ensures) within.0 in
    let high = place_back item c.requires c.position_of-2.result (first_zero item g) (c.position_of-2.ensures ∙ ap (at_place item) c.in_ok-zero.ensures.zero) within.1 in
    let cells = c.new.ensures ∙ c.in_ok-cells.ensures ∙ (λ i. map (cell_at item (slice_index ((c.deref.ensures.value ∙ c.in_ok-zero.ensures.entries) i)) (slice_index ((c.deref-2.ensures.value ∙ c.in_ok-upper_table.ensures) i))) (range_with_len 0 (average_positions item))) in
    whole item g c.in_ok-g.g.num c.in_ok-g.g.den _ _ c.new.result refl refl low high cells c.in_ok-g.ensures
