use Rattle.std.proofs.Common.{◌/◌, ap, ◌∙◌}
use Rattle.std.proofs.Math.Nat.{div-mul_cancel}
use Rattle.fraction128.specs.Lowest.{gcd_is, gcd_of-swap, no_common}
use Rattle.fraction128.proofs.arithmetic.split.Goals as goal

pub returns : goal.returns
returns c =
    let x = c.args.x.now in
    let y = c.args.y.now in
    let shared = c.gcd-shared.result in
    let greatest = c.gcd-shared.ensures in
    let is_gcd_of = gcd_is x.den y.den shared y.reduced.positive greatest in
    record {
      first = ap (λ n. x.den / n) (is_gcd_of ∙ gcd_of-swap x.den y.den shared x.reduced.positive y.reduced.positive greatest);
      second = ap (λ n. y.den / n) is_gcd_of;
      first_den = div-mul_cancel shared greatest.0;
      second_den = div-mul_cancel shared greatest.1;
      apart = no_common x.den y.den shared y.reduced.positive greatest;
    }
