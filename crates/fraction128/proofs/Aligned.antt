-- Two fractions over their least common denominator.
use Rattle.std.proofs.Common.{◌≡◌, ℕ, ◌*◌, ◌<◌, ◌^◌, ℤ, pos, ◌+ℤ◌, ◌-ℤ◌, ◌*ℤ◌, to_z, of_z, arith, sym, ap, subst, ◌∙◌}
use Rattle.std.specs.Prelude.{FitsSigned, unsigned_abs}
use Rattle.std.specs.Int.{w128, ◌∣◌}
use Rattle.std.proofs.Math.Nat.{dvd-mul_right}
use Rattle.std.proofs.lemmas.Int.{to_z-of_z}
use Rattle.fraction128.specs.declared.arithmetic.Denominators.{Denominators}
use Rattle.fraction128.specs.declared.arithmetic.Aligned.{Aligned}
use Rattle.fraction128.specs.declared.frac.Frac.{Frac}
use Rattle.fraction128.specs.Arithmetic.{NumsFit, TotalFits, IsSum, IsDifference, IsQuotient, raised_num, common_den}
use Rattle.fraction128.specs.Divisors.{AreCoprime, AreCoprime-dvd_right}
use Rattle.fraction128.specs.Reduced.{lowest_den}
use Rattle.fraction128.specs.Split.{IsSplit, IsAligned, least_common}
use Rattle.fraction128.proofs.Totals.{sum_apart, difference_apart, sum_value, difference_value}

first_apart : (x y : Frac) (p : Denominators) → IsSplit x y p → AreCoprime (unsigned_abs x.num) p.first
first_apart x y p split =
    let P : ℕ → Type 0 = λ n. p.first ∣ n in
    AreCoprime-dvd_right (unsigned_abs x.num) x.den p.first (subst P split.first_den (dvd-mul_right p.first p.shared)) x.reduced.lowest

second_apart : (x y : Frac) (p : Denominators) → IsSplit x y p → AreCoprime (unsigned_abs y.num) p.second
second_apart x y p split =
    let P : ℕ → Type 0 = λ n. p.second ∣ n in
    AreCoprime-dvd_right (unsigned_abs y.num) y.den p.second (subst P split.second_den (dvd-mul_right p.second p.shared)) y.reduced.lowest

-- the numerators, by the parts
scaled_first : (x y : Frac) (p : Denominators) → IsSplit x y p → x.num *ℤ pos p.second ≡ raised_num x y
scaled_first x y p split = ap (λ n. x.num *ℤ pos n) split.second

scaled_second : (x y : Frac) (p : Denominators) → IsSplit x y p → y.num *ℤ pos p.first ≡ raised_num y x
scaled_second x y p split = ap (λ n. y.num *ℤ pos n) split.first

-- neither total shares a divisor with the parts
pub sum_apart_parts : (x y : Frac) (p : Denominators) → IsSplit x y p → AreCoprime (unsigned_abs (raised_num x y +ℤ raised_num y x)) (p.first * p.second)
sum_apart_parts x y p split =
    rw (← scaled_first x y p split, ← scaled_second x y p split) (sum_apart x.num y.num p.first p.second (first_apart x y p split) (second_apart x y p split) split.apart)

pub difference_apart_parts : (x y : Frac) (p : Denominators) → IsSplit x y p → AreCoprime (unsigned_abs (raised_num x y -ℤ raised_num y x)) (p.first * p.second)
difference_apart_parts x y p split =
    rw (← scaled_first x y p split, ← scaled_second x y p split) (difference_apart x.num y.num p.first p.second (first_apart x y p split) (second_apart x y p split) split.apart)

least_common_is : (x y : Frac) (p : Denominators) → IsSplit x y p → least_common p ≡ common_den x y
least_common_is x y p split =
    let regroup : least_common p ≡ p.first * p.shared * p.second = omega arith in
    regroup ∙ ap (λ n. n * p.second) split.first_den ∙ ap (λ n. x.den * n) split.second

-- ---- what the calls answer, whose signed arguments appear as bits read back

-- the checked sum and the checked difference
pub sum_is : (x y : Frac) (a : Aligned) (total : ℤ) → IsAligned x y a → NumsFit x y →
    FitsSigned w128 (to_z w128 (of_z w128 a.first) +ℤ to_z w128 (of_z w128 a.second)) × (total ≡ to_z w128 (of_z w128 a.first) +ℤ to_z w128 (of_z w128 a.second)) →
    FitsSigned w128 total × (total ≡ raised_num x y +ℤ raised_num y x)
sum_is x y a total aligned nums h =
    let Fits : ℤ → Type 0 = λ z. FitsSigned w128 z in
    let first : FitsSigned w128 a.first = subst Fits (sym aligned.first) nums.first in
    let second : FitsSigned w128 a.second = subst Fits (sym aligned.second) nums.second in
    let e : total ≡ a.first +ℤ a.second = simp to_z-of_z at h.1 in
    (subst Fits (sym h.1) h.0, e ∙ ap (λ z. z +ℤ a.second) aligned.first ∙ ap (λ z. raised_num x y +ℤ z) aligned.second)

pub difference_is : (x y : Frac) (a : Aligned) (total : ℤ) → IsAligned x y a → NumsFit x y →
    FitsSigned w128 (to_z w128 (of_z w128 a.first) -ℤ to_z w128 (of_z w128 a.second)) × (total ≡ to_z w128 (of_z w128 a.first) -ℤ to_z w128 (of_z w128 a.second)) →
    FitsSigned w128 total × (total ≡ raised_num x y -ℤ raised_num y x)
difference_is x y a total aligned nums h =
    let Fits : ℤ → Type 0 = λ z. FitsSigned w128 z in
    let first : FitsSigned w128 a.first = subst Fits (sym aligned.first) nums.first in
    let second : FitsSigned w128 a.second = subst Fits (sym aligned.second) nums.second in
    let e : total ≡ a.first -ℤ a.second = simp to_z-of_z at h.1 in
    (subst Fits (sym h.1) h.0, e ∙ ap (λ z. z -ℤ a.second) aligned.first ∙ ap (λ z. raised_num x y -ℤ z) aligned.second)

-- a fact on a total, at the bits of the number that equals it
pub at_bits : (P : ℤ → Type 0) (total sum : ℤ) → FitsSigned w128 total × (total ≡ sum) → P sum → P (to_z w128 (of_z w128 total))
at_bits P total sum is h = subst P (sym (to_z-of_z w128 total is.0 ∙ is.1)) h

pub from_bits : (P : ℤ → Type 0) (total sum : ℤ) → FitsSigned w128 total × (total ≡ sum) → P (to_z w128 (of_z w128 total)) → P sum
from_bits P total sum is h = subst P (to_z-of_z w128 total is.0 ∙ is.1) h

-- where both numerators and the total fit, only the denominator is left to fit
pub total_fits : (x y : Frac) (a : Aligned) (total sum : ℤ) (Answered : Type 0) → IsAligned x y a → NumsFit x y → FitsSigned w128 total × (total ≡ sum) →
    (Answered → lowest_den (to_z w128 (of_z w128 total)) (least_common a.parts) < 2 ^ 128) × (lowest_den (to_z w128 (of_z w128 total)) (least_common a.parts) < 2 ^ 128 → Answered) →
    (Answered → TotalFits x y sum) × (TotalFits x y sum → Answered)
total_fits x y a total sum Answered aligned nums is fits =
    let Fits : ℤ → Type 0 = λ z. FitsSigned w128 z in
    let Small : ℤ → Type 0 = λ z. lowest_den z (least_common a.parts) < 2 ^ 128 in
    let SmallOver : ℕ → Type 0 = λ n. lowest_den sum n < 2 ^ 128 in
    let common = least_common_is x y a.parts aligned.split in (
      λ answered. record { nums = nums; num = subst Fits is.1 is.0; den = subst SmallOver common (from_bits Small total sum is (fits.0 answered)) },
      λ all. fits.1 (at_bits Small total sum is (subst SmallOver (sym common) all.den)),
    )

-- ---- back to the product of both denominators

pub IsSum-from_common : (x y r : Frac) (p : Denominators) → IsSplit x y p → IsQuotient (raised_num x y +ℤ raised_num y x) (least_common p) r → IsSum x y r
IsSum-from_common x y r p split h =
    let scaled = rw (← scaled_first x y p split, ← scaled_second x y p split) at h in
    rw (← split.first_den, ← split.second_den) (sum_value x.num y.num r.num p.first p.second p.shared r.den scaled)

pub IsDifference-from_common : (x y r : Frac) (p : Denominators) → IsSplit x y p → IsQuotient (raised_num x y -ℤ raised_num y x) (least_common p) r → IsDifference x y r
IsDifference-from_common x y r p split h =
    let scaled = rw (← scaled_first x y p split, ← scaled_second x y p split) at h in
    rw (← split.first_den, ← split.second_den) (difference_value x.num y.num r.num p.first p.second p.shared r.den scaled)
