use Rattle.std.proofs.Common.{◌/◌}
use Rattle.fraction128.specs.Lowest.{gcd_is, gcd_pos}
use Rattle.average_cost.proofs.gain.reduced.Goals as goal

pub nonzero_div-result : goal.nonzero_div-result
nonzero_div-result c = gcd_pos c.args.g.num c.args.g.den c.gcd-common.result c.requires c.gcd-common.ensures

pub nonzero_div-result-2 : goal.nonzero_div-result-2
nonzero_div-result-2 c = gcd_pos c.args.g.num c.args.g.den c.gcd-common.result c.requires c.gcd-common.ensures

pub returns : goal.returns
returns c =
    let is = gcd_is c.args.g.num c.args.g.den c.gcd-common.result c.requires c.gcd-common.ensures in
    λ i. record { num = c.args.g.num / is i; den = c.args.g.den / is i }
