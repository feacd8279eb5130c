use Rattle.std.proofs.Common.{◌≡◌, suc, ◌-◌, ◌*◌, sum, sym, ◌∙◌, ap, arith}
use Rattle.decision_model.specs.Average.{average_positions}
use Rattle.value_cert.specs.AverageValues.{moving, limit}
use Rattle.average_recursion.specs.Recursions.{gain_of}
use Rattle.average_recursion.specs.Rows.{value_below}
use Rattle.average_recursion.specs.declared.points.Points.{Points}
use Rattle.average_recursion.proofs.Known.{valid_known}
use Rattle.average_recursion.proofs.Numbers.{limit_is, limit_most, setup_fits, power_some}
use Rattle.average_recursion.proofs.points.Points.limit_here.Goals as goal

-- the setup cost over the denominator of the last place
setup_is : (r : Points) → r.gain.below * r.terms.moving ≡ value_below r.average.now (gain_of r) * sum (moving r.average.now.law)
setup_is r = λ i. r.is_gain.below i * r.are_terms.all_moving i

pub limit_at-requires-clause-fits : goal.limit_at-requires-clause-fits
limit_at-requires-clause-fits c =
    let r = c.args.self.now in
    omega (arith, setup_is r, setup_fits r.average.now (valid_known r.average.now r.valid) (gain_of r) r.is_gain.small)

pub limit_at-requires-clause-some : goal.limit_at-requires-clause-some
limit_at-requires-clause-some c =
    let r = c.args.self.now in
    omega (arith, r.is_place.power c.requires.left, power_some r.average.now (valid_known r.average.now r.valid) (average_positions r.average.now - suc r.place.count))

-- what ordering costs, with the power of the place
told : (c : goal.After-limit_at) → c.limit_at.result ≡ limit c.args.self.now.average.now (gain_of c.args.self.now) c.args.self.now.place.count
told c =
    let r = c.args.self.now in
    let k = r.place.count in
    let l = limit r.average.now (gain_of r) k in
    c.limit_at.ensures l (setup_is r ∙ limit_is r.average.now (valid_known r.average.now r.valid) (gain_of r) k c.requires.left ∙ ap (λ z. l * z) (sym (r.is_place.power c.requires.left)))

pub returns-clause-exact : goal.returns-clause-exact
returns-clause-exact c = told c

pub returns-clause-small : goal.returns-clause-small
returns-clause-small c =
    let r = c.args.self.now in
    let most = limit_most r.average.now (valid_known r.average.now r.valid) (gain_of r) r.is_gain.small r.place.count c.requires.left in
    omega (arith, most, ap (λ z. z * r.place.power) (told c), ap (λ z. limit r.average.now (gain_of r) r.place.count * z) (r.is_place.power c.requires.left))
