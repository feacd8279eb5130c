use Rattle.std.proofs.Common.{◌∙◌}
use Rattle.bracket_cost.proofs.CellFacts.{high_fits}
use Rattle.bracket_terms.specs.Known.{item_of, wide_of}
use Rattle.bracket_cost.proofs.solve.find_front.Goals as goal

pub count_orders-orders-requires : goal.count_orders-orders-requires
count_orders-orders-requires c = high_fits (item_of c.args.terms.now) (wide_of c.args.terms.now) c.in_ok-lower.lower c.in_ok-high.high c.deref.result.now c.in_ok-lower.ensures.exact c.in_ok-high.ensures.high (c.deref.ensures.value ∙ c.in_ok-high.ensures.entries)
