-- Two denominators without what they share.
use Rattle.std.specs.Prelude.{◌≡◌, ℕ, ◌*◌, ◌/◌}
use Rattle.fraction128.specs.Arithmetic.{raised_num}
use Rattle.fraction128.specs.declared.arithmetic.Aligned.{Aligned}
use Rattle.fraction128.specs.declared.arithmetic.Denominators.{Denominators}
use Rattle.fraction128.specs.declared.frac.Frac.{Frac}
use Rattle.fraction128.specs.Divisors.{AreCoprime}
use Rattle.fraction128.specs.Reduced.{gcd_of}

-- these are the parts of the denominators of x and y
pub record IsSplit (x y : Frac) (parts : Denominators) : Type 0 where
  pub first : parts.first ≡ x.den / gcd_of y.den x.den
  pub second : parts.second ≡ y.den / gcd_of x.den y.den
  pub first_den : parts.first * parts.shared ≡ x.den
  pub second_den : parts.second * parts.shared ≡ y.den
  pub apart : AreCoprime parts.first parts.second

-- the denominator that has this part in the place of the shared one
abbrev pub den_with : ℕ → Denominators → ℕ
den_with shared parts = shared * parts.first * parts.second

-- the least common denominator
abbrev pub least_common : Denominators → ℕ
least_common parts = den_with parts.shared parts

-- these are x and y over their least common denominator
pub record IsAligned (x y : Frac) (aligned : Aligned) : Type 0 where
  pub split : IsSplit x y aligned.parts
  pub first : aligned.first ≡ raised_num x y
  pub second : aligned.second ≡ raised_num y x
