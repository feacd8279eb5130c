use Rattle.std.proofs.Common.{◌∙◌, ◌++◌, ◌∷◌, [], sym, slice_index, arith, ap}
use Rattle.std.proofs.lemmas.List.FromFn.{map-range_with_len_more}
use Rattle.decision_model.specs.Average.{average_positions}
use Rattle.value_cert.specs.BracketValues.{most_over}
use Rattle.bracket_lemmas.specs.SolvedCert.{cell_at}
use Rattle.bracket_terms.specs.Known.{item_of, wide_of}
use Rattle.bracket_lemmas.specs.WideSizes.{raise_small}
use Rattle.bracket_cost.proofs.solve.list_cells.Goals as goal

pub loop-k-preserved : goal.loop-k-preserved
loop-k-preserved c =
    c.in_ok-push.ensures.items
    ∙ (λ i. c.loop-k.invariant i ++ (c.cell_of.ensures ∙ ap (λ r. cell_at (item_of c.args.terms.now) (slice_index c.args.under.now) (slice_index c.args.over.now) r c.loop-k.k) c.sizes-raise.ensures.raise) i ∷ [])
    ∙ sym (map-range_with_len_more (cell_at (item_of c.args.terms.now) (slice_index c.args.under.now) (slice_index c.args.over.now) (most_over (item_of c.args.terms.now) (average_positions (item_of c.args.terms.now)))) 0 c.loop-k.k c.loop-k.k (omega arith))

pub cell_of-requires-clause-raise : goal.cell_of-requires-clause-raise
cell_of-requires-clause-raise c = omega (arith, c.sizes-raise.ensures.raise, raise_small (item_of c.args.terms.now) (wide_of c.args.terms.now))
