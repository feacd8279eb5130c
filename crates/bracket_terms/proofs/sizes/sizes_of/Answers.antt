use Rattle.std.proofs.Common.{◌∙◌, arith}
use Rattle.bracket_terms.proofs.SizeFacts.{raise_told}
use Rattle.bracket_terms.proofs.sizes.sizes_of.Goals as goal

pub overflow_mul-result-4 : goal.overflow_mul-result-4
overflow_mul-result-4 c =
    let fits = raise_told c.args.item.now c.requires c.from-3.result c.from.result c.average_cost_bound.result c.total-total.result (c.from-3.ensures ∙ c.positions-count.ensures.positions) c.from.ensures c.average_cost_bound.ensures.bound c.total-total.ensures in
    omega (arith, fits)
