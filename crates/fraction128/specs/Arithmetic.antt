-- What fractions add up to, multiply to and compare as, and when that fits.
use Rattle.std.specs.Prelude.{◌≡◌, ℕ, ◌*◌, ◌/◌, ◌^◌, ◌<◌, ℤ, pos, ◌+ℤ◌, ◌-ℤ◌, ◌*ℤ◌, FitsSigned}
use Rattle.std.specs.Int.{w128}
use Rattle.std.specs.Ordering.{int_cmp}
use Rattle.std.specs.declared.cmp.Ordering.{Ordering}
use Rattle.fraction128.specs.Lowest.{lowest_unique}
use Rattle.fraction128.specs.Reduced.{gcd_of, lowest_num, lowest_den}
use Rattle.fraction128.specs.declared.frac.Frac.{Frac}

-- ---- values, by cross products

-- the numerator of x over the product of both denominators
abbrev pub cross : Frac → Frac → ℤ
cross x y = x.num *ℤ pos y.den

-- r is num/den
abbrev pub IsQuotient : ℤ → ℕ → Frac → Type 0
IsQuotient num den r = (r.num *ℤ pos den) ≡ (num *ℤ pos r.den)

-- r is x + y
abbrev pub IsSum : Frac → Frac → Frac → Type 0
IsSum x y r = IsQuotient (cross x y +ℤ cross y x) (x.den * y.den) r

-- r is x - y
abbrev pub IsDifference : Frac → Frac → Frac → Type 0
IsDifference x y r = IsQuotient (cross x y -ℤ cross y x) (x.den * y.den) r

-- r is x times y
abbrev pub IsProduct : Frac → Frac → Frac → Type 0
IsProduct x y r = IsQuotient (x.num *ℤ y.num) (x.den * y.den) r

-- how x and y compare
abbrev pub order_of : Frac → Frac → Ordering
order_of x y = int_cmp (cross x y) (cross y x)

-- ---- what fits

-- the least common denominator
abbrev pub common_den : Frac → Frac → ℕ
common_den x y = x.den * (y.den / gcd_of x.den y.den)

-- the numerator of x over the least common denominator of x and y
abbrev pub raised_num : Frac → Frac → ℤ
raised_num x y = x.num *ℤ pos (y.den / gcd_of x.den y.den)

-- both numerators over the least common denominator
pub record NumsFit (x y : Frac) : Type 0 where
  pub first : FitsSigned w128 (raised_num x y)
  pub second : FitsSigned w128 (raised_num y x)

-- both numerators, their total, and its denominator in lowest terms
pub record TotalFits (x y : Frac) (total : ℤ) : Type 0 where
  pub nums : NumsFit x y
  pub num : FitsSigned w128 total
  pub den : lowest_den total (common_den x y) < 2 ^ 128

abbrev pub SumFits : Frac → Frac → Type 0
SumFits x y = TotalFits x y (raised_num x y +ℤ raised_num y x)

abbrev pub DifferenceFits : Frac → Frac → Type 0
DifferenceFits x y = TotalFits x y (raised_num x y -ℤ raised_num y x)

-- num/den in lowest terms
pub record QuotientFits (num : ℤ) (den : ℕ) : Type 0 where
  pub reduced_num : FitsSigned w128 (lowest_num num den)
  pub reduced_den : lowest_den num den < 2 ^ 128

abbrev pub ProductFits : Frac → Frac → Type 0
ProductFits x y = QuotientFits (x.num *ℤ y.num) (x.den * y.den)

-- both cross products
pub record CrossFits (x y : Frac) : Type 0 where
  pub first : FitsSigned w128 (cross x y)
  pub second : FitsSigned w128 (cross y x)

-- a fraction that is num/den is num/den in lowest terms
pub lowest-from_IsQuotient : (num : ℤ) (den : ℕ) (r : Frac) → 0 < den → IsQuotient num den r → (r.num ≡ lowest_num num den) × (r.den ≡ lowest_den num den)
lowest-from_IsQuotient num den r positive is = lowest_unique r.num num r.den den positive r.reduced is
