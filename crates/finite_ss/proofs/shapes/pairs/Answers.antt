use Rattle.std.proofs.Common.{◌∙◌, sym, ap}
use Rattle.value_cert.specs.FiniteRules.{cells_of}
use Rattle.finite_ss.specs.Shapes.{shape_of}
use Rattle.finite_ss.specs.ShapeFacts.{shape_told}
use Rattle.finite_ss.proofs.Rows.{cells_here}
use Rattle.finite_ss.proofs.shapes.pairs.Goals as goal

pub returns-then-row-t-clause-told : goal.returns-then-row-t-clause-told
returns-then-row-t-clause-told c =
    let here = cells_here c.as_slice-row-items.result.now c.loop-row.row-index c.args.t c.row-item.result c.loop-row-test.true c.row-item.is c.if-row-t.true in
    let rows = ap (λ rows. cells_of rows c.args.t) (sym c.as_slice-row-items.ensures) ∙ c.loop-row.invariant ∙ here in
    shape_told _ _ (c.shape_of_cells.ensures ∙ ap shape_of (c.as_slice.ensures ∙ sym rows))
