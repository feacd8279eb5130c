use Rattle.std.proofs.Common.{ℤ, ◌*◌, ◌-ℤ◌, refl}
use Rattle.std.specs.Prelude.{unsigned_abs}
use Rattle.std.proofs.lemmas.Option.{IfSome_then}
use Rattle.fraction128.specs.Arithmetic.{IsQuotient, raised_num}
use Rattle.fraction128.specs.Divisors.{AreCoprime}
use Rattle.fraction128.specs.Split.{least_common}
use Rattle.fraction128.proofs.Aligned.{at_bits, from_bits, difference_apart_parts, difference_is, total_fits, IsDifference-from_common}
use Rattle.fraction128.proofs.frac.Frac.try_sub.Goals as goal

pub over_common-requires-clause-apart : goal.over_common-requires-clause-apart
over_common-requires-clause-apart c =
    let x = c.args.self.now in
    let y = c.args.other.now in
    let a = c.in_ok-aligned.aligned in
    let facts = c.in_ok-aligned.ensures in
    let is = difference_is x y a c.in_ok-total.total facts.value (facts.fits.0 refl) c.in_ok-total.ensures in
    let Apart : ℤ → Type 0 = λ z. AreCoprime (unsigned_abs z) (a.parts.first * a.parts.second) in
    at_bits Apart c.in_ok-total.total (raised_num x y -ℤ raised_num y x) is (difference_apart_parts x y a.parts facts.value.split)

pub returns-clause-fits : goal.returns-clause-fits
returns-clause-fits c =
    let x = c.args.self.now in
    let y = c.args.other.now in
    let a = c.in_ok-aligned.aligned in
    let facts = c.in_ok-aligned.ensures in
    let nums = facts.fits.0 refl in
    let is = difference_is x y a c.in_ok-total.total facts.value nums c.in_ok-total.ensures in
    total_fits x y a c.in_ok-total.total (raised_num x y -ℤ raised_num y x) _ facts.value nums is c.over_common.ensures.fits

pub returns-clause-value : goal.returns-clause-value
returns-clause-value c =
    let x = c.args.self.now in
    let y = c.args.other.now in
    let a = c.in_ok-aligned.aligned in
    let facts = c.in_ok-aligned.ensures in
    let is = difference_is x y a c.in_ok-total.total facts.value (facts.fits.0 refl) c.in_ok-total.ensures in
    IfSome_then c.over_common.result c.over_common.ensures.value
    (λ r h. IsDifference-from_common x y r a.parts facts.value.split
    (from_bits (λ z. IsQuotient z (least_common a.parts) r) c.in_ok-total.total (raised_num x y -ℤ raised_num y x) is h))
