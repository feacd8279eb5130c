use Rattle.std.proofs.Common.{◌+◌, sum, arith, ap, ◌∙◌}
use Rattle.decision_model.specs.SerialProblem.{lacking_rate}
use Rattle.serial_recursion.proofs.RateSums.{sum_in_range}
use Rattle.serial_recursion.proofs.rates.lacking_rate.Goals as goal

pub sum_of-requires : goal.sum_of-requires
sum_of-requires c = omega (arith, ap sum c.as_slice.ensures, sum_in_range c.args.serial.now.holding c.requires.most_echelons c.requires.holding)

pub overflow_add-result : goal.overflow_add-result
overflow_add-result c =
    omega (arith, c.sum_of.ensures, ap sum c.as_slice.ensures, c.requires.stockout, sum_in_range c.args.serial.now.holding c.requires.most_echelons c.requires.holding)

pub returns-clause-exact : goal.returns-clause-exact
unfolding lacking_rate
returns-clause-exact c = ap (λ k. c.args.serial.now.stockout + k) (c.sum_of.ensures ∙ ap sum c.as_slice.ensures)

pub returns-clause-small : goal.returns-clause-small
returns-clause-small c =
    omega (arith, c.sum_of.ensures, ap sum c.as_slice.ensures, c.requires.stockout, sum_in_range c.args.serial.now.holding c.requires.most_echelons c.requires.holding)
