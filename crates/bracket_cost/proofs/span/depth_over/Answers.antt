use Rattle.std.proofs.Common.{◌∙◌, pos, ◌-ℤ◌, sym, ap}
use Rattle.decision_model.specs.Positions.{above_zero}
use Rattle.value_cert.specs.declared.bracket.BracketCell.{BracketCell}
use Rattle.bracket_cost.proofs.SpanFacts.{depth_none, depth_more, over_read}
use Rattle.bracket_cost.proofs.span.depth_over.Goals as goal

pub loop-cell-init : goal.loop-cell-init
loop-cell-init c = sym depth_none

pub loop-cell-preserved : goal.loop-cell-preserved
loop-cell-preserved c =
    let none : BracketCell = record { at = pos 0; under = 0; over = pos 0 } in
    depth_more c.loop-cell.depth c.max-depth.result c.below_zero.result c.args.cells.now c.loop-cell.cell-index none c.loop-cell-test.true c.loop-cell.invariant (c.below_zero.ensures ∙ ap (λ z. above_zero (pos 0 -ℤ z)) (over_read c.args.cells.now c.loop-cell.cell-index none c.loop-cell-test.true c.requires)) c.max-depth.ensures
