use Rattle.std.proofs.Common.{◌≡◌, ◌*◌, ◌∙◌, ap, arith}
use Rattle.average_recursion.specs.Rows.{value_below}
use Rattle.average_recursion.proofs.Numbers.{stock_fits, scale_fits, below_fits, unit_fits, loss_fits}
use Rattle.average_recursion.proofs.gain.gain_of.Goals as goal

pub overflow_mul-stock : goal.overflow_mul-stock
overflow_mul-stock c =
    let fits = stock_fits c.args.average.now c.requires.valid (record { num = c.args.num; den = c.args.den }) c.requires.small in
    rw c.requires.terms.last (omega (arith, fits))

pub overflow_mul-result : goal.overflow_mul-result
overflow_mul-result c =
    let fits = scale_fits c.args.average.now c.requires.valid (record { num = c.args.num; den = c.args.den }) c.requires.small in
    rw (c.requires.terms.last, c.requires.terms.weights) (omega (arith, fits))

-- the setup cost
below_is : (c : goal.After-from) → c.from.result * (c.args.den * c.args.terms.now.last * c.args.terms.now.weights) ≡ value_below c.args.average.now (record { num = c.args.num; den = c.args.den })
unfolding value_below
below_is c = (λ i. c.from.ensures i * (c.args.den * c.requires.terms.last i * c.requires.terms.weights i)) ∙ omega arith

pub overflow_mul-result-2 : goal.overflow_mul-result-2
overflow_mul-result-2 c =
    let fits = below_fits c.args.average.now c.requires.valid (record { num = c.args.num; den = c.args.den }) c.requires.small in
    let is = below_is c in
    omega (arith, fits, is)

pub overflow_mul-result-3 : goal.overflow_mul-result-3
overflow_mul-result-3 c =
    let fits = unit_fits c.args.average.now c.requires.valid in
    rw (c.requires.terms.last, c.requires.terms.unit) (omega (arith, fits))

pub overflow_mul-result-4 : goal.overflow_mul-result-4
overflow_mul-result-4 c =
    let fits = loss_fits c.args.average.now c.requires.valid (record { num = c.args.num; den = c.args.den }) c.requires.small in
    rw (c.requires.terms.last, c.requires.terms.unit) (omega (arith, fits))

pub returns-clause-gain : goal.returns-clause-gain
returns-clause-gain c = record {
  small = c.requires.small;
  stock = ap (λ z. c.args.den * z) c.requires.terms.last;
  below = below_is c;
  loss = λ i. c.args.num * (c.requires.terms.unit i * c.requires.terms.last i);
}
