-- The product of two fractions: each numerator is reduced against the other denominator first.
use Rattle.std.proofs.Common.{◌≡◌, ℕ, ◌*◌, ℤ, pos, ◌*ℤ◌, to_z, of_z, sym, ap, subst, ◌∙◌}
use Rattle.std.specs.Prelude.{FitsSigned, unsigned_abs}
use Rattle.std.specs.Int.{w128}
use Rattle.std.proofs.Math.Nat.{mul_comm, mul-pos}
use Rattle.std.proofs.lemmas.Int.{to_z-of_z, unsigned_abs-mul}
use Rattle.fraction128.specs.declared.frac.Frac.{Frac}
use Rattle.fraction128.specs.Divisors.{AreCoprime, AreCoprime-swap, AreCoprime-dvd_right, AreCoprime-mul}
use Rattle.fraction128.specs.Lowest.{den_dvd, num_dvd, lowest_unique}
use Rattle.fraction128.specs.Reduced.{IsReduced, lowest_num, lowest_den}
use Rattle.fraction128.proofs.Scaled.{mul-mul_pos}

-- a signed number as the bits that it is passed in, read back
abbrev pub passed : ℤ → ℤ
passed z = to_z w128 (of_z w128 z)

-- what first and second are, from which the answer is made
pub record IsMultiplied (x y first second : Frac) : Type 0 where
  pub product : passed first.num *ℤ passed second.num ≡ first.num *ℤ second.num
  pub reduced : IsReduced (first.num *ℤ second.num) (first.den * second.den)
  pub value : first.num *ℤ second.num *ℤ pos (x.den * y.den) ≡ x.num *ℤ y.num *ℤ pos (first.den * second.den)
  pub num_is : passed first.num *ℤ passed second.num ≡ lowest_num (x.num *ℤ y.num) (x.den * y.den)
  pub den_is : first.den * second.den ≡ lowest_den (x.num *ℤ y.num) (x.den * y.den)

-- the numerator of r divides that of x, and the denominator of s that of x
parts_apart : (x r s : Frac) (d : ℕ) (z : ℤ) → r.num *ℤ pos d ≡ x.num *ℤ pos r.den → s.num *ℤ pos x.den ≡ z *ℤ pos s.den → AreCoprime (unsigned_abs r.num) s.den
parts_apart x r s d z num den =
    let size : ℕ = unsigned_abs r.num in
    let small = AreCoprime-dvd_right (unsigned_abs x.num) x.den s.den (den_dvd s.num z s.den x.den s.reduced den) x.reduced.lowest in
    AreCoprime-swap s.den size
    (AreCoprime-dvd_right s.den (unsigned_abs x.num) size (num_dvd r.num x.num r.den d r.reduced num) (AreCoprime-swap (unsigned_abs x.num) s.den small))

-- two numerators that share nothing with either denominator
product_apart : (a c d e : ℕ) → AreCoprime a d → AreCoprime a e → AreCoprime c d → AreCoprime c e → AreCoprime (a * c) (d * e)
product_apart a c d e ad ae cd ce =
    let with_d = AreCoprime-mul a c d ad cd in
    let with_e = AreCoprime-mul a c e ae ce in
    AreCoprime-swap (d * e) (a * c) (AreCoprime-mul d e (a * c) (AreCoprime-swap (a * c) d with_d) (AreCoprime-swap (a * c) e with_e))

multiplied_reduced : (x y first second : Frac) → first.num *ℤ pos y.den ≡ x.num *ℤ pos first.den → second.num *ℤ pos x.den ≡ y.num *ℤ pos second.den → IsReduced (first.num *ℤ second.num) (first.den * second.den)
multiplied_reduced x y first second h k =
    let P : ℕ → Type 0 = λ n. AreCoprime n (first.den * second.den) in
    let apart = product_apart (unsigned_abs first.num) (unsigned_abs second.num) first.den second.den first.reduced.lowest (parts_apart x first second y.den y.num h k) (parts_apart y second first x.den x.num k h) second.reduced.lowest in
    record {
      positive = mul-pos first.reduced.positive second.reduced.positive;
      lowest = subst P (sym (unsigned_abs-mul first.num second.num)) apart;
    }

multiplied_value : (x y first second : Frac) → first.num *ℤ pos y.den ≡ x.num *ℤ pos first.den → second.num *ℤ pos x.den ≡ y.num *ℤ pos second.den → first.num *ℤ second.num *ℤ pos (x.den * y.den) ≡ x.num *ℤ y.num *ℤ pos (first.den * second.den)
multiplied_value x y first second h k =
    ap (λ n. first.num *ℤ second.num *ℤ pos n) (mul_comm x.den y.den)
    ∙ sym (mul-mul_pos first.num second.num y.den x.den)
    ∙ ap (λ z. z *ℤ (second.num *ℤ pos x.den)) h ∙ ap (λ z. x.num *ℤ pos first.den *ℤ z) k
    ∙ mul-mul_pos x.num y.num first.den second.den

pub multiplied : (x y first second : Frac) → FitsSigned w128 x.num → FitsSigned w128 y.num → FitsSigned w128 first.num → FitsSigned w128 second.num → first.num *ℤ pos y.den ≡ passed x.num *ℤ pos first.den → second.num *ℤ pos x.den ≡ passed y.num *ℤ pos second.den → IsMultiplied x y first second
multiplied x y first second x_fits y_fits first_fits second_fits h k =
    let first_is : first.num *ℤ pos y.den ≡ x.num *ℤ pos first.den = simp to_z-of_z at h in
    let second_is : second.num *ℤ pos x.den ≡ y.num *ℤ pos second.den = simp to_z-of_z at k in
    let product : passed first.num *ℤ passed second.num ≡ first.num *ℤ second.num = simp to_z-of_z in
    let reduced = multiplied_reduced x y first second first_is second_is in
    let value = multiplied_value x y first second first_is second_is in
    let lowest = lowest_unique (first.num *ℤ second.num) (x.num *ℤ y.num) (first.den * second.den) (x.den * y.den) (mul-pos x.reduced.positive y.reduced.positive) reduced value in
    record { product = product; reduced = reduced; value = value; num_is = product ∙ lowest.0; den_is = lowest.1 }
