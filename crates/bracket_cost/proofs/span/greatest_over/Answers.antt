use Rattle.std.proofs.Common.{◌∙◌, pos, sym, ap}
use Rattle.decision_model.specs.Positions.{above_zero}
use Rattle.value_cert.specs.declared.bracket.BracketCell.{BracketCell}
use Rattle.bracket_cost.proofs.SpanFacts.{greatest_none, greatest_more, over_read}
use Rattle.bracket_cost.proofs.span.greatest_over.Goals as goal

pub loop-cell-init : goal.loop-cell-init
loop-cell-init c = sym (greatest_none c.args.most)

pub loop-cell-preserved : goal.loop-cell-preserved
loop-cell-preserved c =
    let none : BracketCell = record { at = pos 0; under = 0; over = pos 0 } in
    greatest_more c.args.most c.loop-cell.greatest c.max-greatest.result c.above_zero.result c.args.cells.now c.loop-cell.cell-index none c.loop-cell-test.true c.loop-cell.invariant (c.above_zero.ensures ∙ ap above_zero (over_read c.args.cells.now c.loop-cell.cell-index none c.loop-cell-test.true c.requires)) c.max-greatest.ensures
