use Rattle.std.proofs.Common.{◌∙◌, ap, arith, pos}
use Rattle.fraction128.specs.Reduced.{lowest_num, lowest_den}
use Rattle.decision_model.specs.Limits.{parts}
use Rattle.std.specs.Prelude.{unsigned_abs}
use Rattle.bracket_cost.proofs.CellFacts.{entry_back}
use Rattle.bracket_cost.proofs.SpanFacts.{cells_small, span_told, span_small}
use Rattle.bracket_cost.proofs.span.bracket_span.Goals as goal

pub greatest_over-requires : goal.greatest_over-requires
greatest_over-requires c = cells_small c.args.item.now c.requires.wide c.args.cert.now c.requires.bracket c.as_slice-cells.result.now c.as_slice-cells.ensures

pub depth_over-requires : goal.depth_over-requires
depth_over-requires c = cells_small c.args.item.now c.requires.wide c.args.cert.now c.requires.bracket c.as_slice-cells.result.now c.as_slice-cells.ensures

pub overflow_add-span : goal.overflow_add-span
overflow_add-span c =
    let told = span_told c.args.item.now c.requires.wide c.args.cert.now c.requires.bracket c.from-setup.result c.greatest_over.result c.depth_over.result c.as_slice-cells.result.now c.as_slice-cells.ensures c.from-setup.ensures c.greatest_over.ensures c.depth_over.ensures in
    let fits = span_small c.args.item.now c.requires.wide c.args.cert.now c.requires.bracket in
    omega (arith, told, fits)

pub signed-requires : goal.signed-requires
signed-requires c =
    let told = span_told c.args.item.now c.requires.wide c.args.cert.now c.requires.bracket c.from-setup.result c.greatest_over.result c.depth_over.result c.as_slice-cells.result.now c.as_slice-cells.ensures c.from-setup.ensures c.greatest_over.ensures c.depth_over.ensures in
    let fits = span_small c.args.item.now c.requires.wide c.args.cert.now c.requires.bracket in
    omega (arith, told, fits)

pub returns-clause-num : goal.returns-clause-num
returns-clause-num c =
    let told = span_told c.args.item.now c.requires.wide c.args.cert.now c.requires.bracket c.from-setup.result c.greatest_over.result c.depth_over.result c.as_slice-cells.result.now c.as_slice-cells.ensures c.from-setup.ensures c.greatest_over.ensures c.depth_over.ensures in
    let is = c.signed.ensures ∙ ap pos told in
    let back = entry_back c.signed.result (omega (arith, ap unsigned_abs is, span_small c.args.item.now c.requires.wide c.args.cert.now c.requires.bracket)) in
    c.new.ensures.num ∙ (λ i. lowest_num ((back ∙ is) i) parts)

pub returns-clause-den : goal.returns-clause-den
returns-clause-den c =
    let told = span_told c.args.item.now c.requires.wide c.args.cert.now c.requires.bracket c.from-setup.result c.greatest_over.result c.depth_over.result c.as_slice-cells.result.now c.as_slice-cells.ensures c.from-setup.ensures c.greatest_over.ensures c.depth_over.ensures in
    let is = c.signed.ensures ∙ ap pos told in
    let back = entry_back c.signed.result (omega (arith, ap unsigned_abs is, span_small c.args.item.now c.requires.wide c.args.cert.now c.requires.bracket)) in
    c.new.ensures.den ∙ (λ i. lowest_den ((back ∙ is) i) parts)
