use Rattle.std.proofs.Common.{◌∙◌, ◌++◌, ◌∷◌, [], sym, slice_index, arith}
use Rattle.std.proofs.lemmas.List.FromFn.{map-range_with_len_more}
use Rattle.average_cost.specs.Cells.{cell_at}
use Rattle.average_cost.proofs.SolveFacts.{place_back}
use Rattle.average_cost.proofs.solve.list_cells.Goals as goal

pub loop-k-preserved : goal.loop-k-preserved
loop-k-preserved c =
    let at = place_back c.args.item.now c.requires.valid c.position_of.result c.loop-k.k c.position_of.ensures (omega (arith, c.loop-k-test.true, c.requires.lower, c.requires.valid.regular.grid)) in
    c.in_ok-push.ensures.items
    ∙ (λ i. c.loop-k.invariant i ++ record { at = at i; lower = slice_index c.args.lower.now c.loop-k.k; upper = slice_index c.args.upper.now c.loop-k.k } ∷ [])
    ∙ sym (map-range_with_len_more (cell_at c.args.item.now (slice_index c.args.lower.now) (slice_index c.args.upper.now)) 0 c.loop-k.k c.loop-k.k (omega arith))
