use Rattle.std.proofs.Common.{arith}
use Rattle.average_cost.specs.Turns.{ratio_of}
use Rattle.average_cost.proofs.TableFacts.{stock_by_g, unit_by_g, cheap_told}
use Rattle.average_cost.proofs.tables.is_cheap_at.Goals as goal

pub overflow_mul-result : goal.overflow_mul-result
overflow_mul-result c = let fits = stock_by_g c.args.item.now c.requires.valid (ratio_of c.args.g) c.requires.cost c.args.k c.requires.within in rw c.stock_at.ensures (omega (arith, fits))

pub overflow_mul-result-2 : goal.overflow_mul-result-2
overflow_mul-result-2 c = let fits = unit_by_g c.args.item.now c.requires.valid (ratio_of c.args.g) c.requires.cost in rw c.requires.terms.unit (omega (arith, fits))

pub returns : goal.returns
returns c = cheap_told c.args.item.now (ratio_of c.args.g) c.args.k c.stock_at.result c.args.terms.now.unit c.stock_at.ensures c.requires.terms.unit
