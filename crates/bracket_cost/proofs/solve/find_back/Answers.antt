use Rattle.std.proofs.Common.{ap, arith}
use Rattle.bracket_cost.proofs.CellFacts.{high_inside, orders_before}
use Rattle.bracket_terms.specs.Known.{item_of, wide_of}
use Rattle.bracket_cost.proofs.solve.find_back.Goals as goal

pub find_upper-requires-clause-within : goal.find_upper-requires-clause-within
find_upper-requires-clause-within c = omega (arith, high_inside (item_of c.args.terms.now) (wide_of c.args.terms.now), ap (λ f. f.pair.high) c.requires)

pub find_upper-requires-clause-before : goal.find_upper-requires-clause-before
find_upper-requires-clause-before c = omega (arith, orders_before (item_of c.args.terms.now) (wide_of c.args.terms.now), ap (λ f. f.pair.high) c.requires, ap (λ f. f.pair.orders) c.requires)
