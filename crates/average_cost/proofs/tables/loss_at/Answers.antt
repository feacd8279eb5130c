use Rattle.std.proofs.Common.{arith}
use Rattle.average_cost.specs.Turns.{ratio_of}
use Rattle.average_cost.proofs.TableFacts.{unit_power, loss_is, loss_fits}
use Rattle.average_cost.proofs.tables.loss_at.Goals as goal

pub overflow_mul-result : goal.overflow_mul-result
overflow_mul-result c = let fits = unit_power c.args.item.now c.requires.valid (ratio_of c.args.g) c.requires.cost c.args.terms.now c.requires.terms c.args.place.now c.args.k c.requires.within c.requires.place in omega (arith, fits)

pub overflow_mul-result-2 : goal.overflow_mul-result-2
overflow_mul-result-2 c = let fits = loss_fits c.args.item.now c.requires.valid (ratio_of c.args.g) c.requires.cost c.args.k c.requires.within in let is = loss_is c.args.item.now c.requires.valid (ratio_of c.args.g) c.requires.cost c.args.terms.now c.requires.terms c.args.place.now c.args.k c.requires.within c.requires.place in omega (arith, fits, is)

pub returns-clause-exact : goal.returns-clause-exact
returns-clause-exact c = loss_is c.args.item.now c.requires.valid (ratio_of c.args.g) c.requires.cost c.args.terms.now c.requires.terms c.args.place.now c.args.k c.requires.within c.requires.place

pub returns-clause-small : goal.returns-clause-small
returns-clause-small c = let fits = loss_fits c.args.item.now c.requires.valid (ratio_of c.args.g) c.requires.cost c.args.k c.requires.within in let is = loss_is c.args.item.now c.requires.valid (ratio_of c.args.g) c.requires.cost c.args.terms.now c.requires.terms c.args.place.now c.args.k c.requires.within c.requires.place in omega (arith, fits, is)
