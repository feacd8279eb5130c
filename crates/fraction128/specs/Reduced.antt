-- Fractions in lowest terms.
use Rattle.std.specs.Prelude.{ℕ, ◌<◌, ◌/◌, ◌%◌, ◌&&◌, zero, suc, ℤ, pos, negsuc, if◌then◌else◌, ◌==◌, unsigned_abs}
use lib.IntN.{neg_ℤ}
use Rattle.fraction128.specs.Divisors.{AreCoprime}

-- the denominator is above 0, and no number but 1 divides both
pub record IsReduced (num : ℤ) (den : ℕ) : Type 0 where
  pub positive : 0 < den
  pub lowest : AreCoprime (unsigned_abs num) den

-- the greatest number from 1 to n that divides both, 0 where there is none
unfoldable pub common_divisor_upto : ℕ → ℕ → ℕ → ℕ
common_divisor_upto a b zero = 0
common_divisor_upto a b (suc n) = if (a % suc n == 0) && (b % suc n == 0) then suc n else common_divisor_upto a b n

-- the greatest common divisor, where b is above 0
abbrev pub gcd_of : ℕ → ℕ → ℕ
gcd_of a b = common_divisor_upto a b b

-- n under the sign of the first
abbrev pub with_sign_of : ℤ → ℕ → ℤ
with_sign_of (pos m) n = pos n
with_sign_of (negsuc m) n = neg_ℤ (pos n)

-- numerator and denominator of num/den in lowest terms, where den is above 0
abbrev pub lowest_num : ℤ → ℕ → ℤ
lowest_num num den = with_sign_of num (unsigned_abs num / gcd_of (unsigned_abs num) den)

abbrev pub lowest_den : ℤ → ℕ → ℕ
lowest_den num den = den / gcd_of (unsigned_abs num) den
