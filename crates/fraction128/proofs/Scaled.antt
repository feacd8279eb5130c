-- Products of signed numbers, most with a factor that is not below 0.
use Rattle.std.proofs.Common.{◌≡◌, ℕ, ◌*◌, ℤ, pos, ◌+ℤ◌, ◌*ℤ◌, arith, sym, ap, ◌∙◌}
use Rattle.std.specs.Prelude.{unsigned_abs}
use Rattle.std.proofs.Math.IntN.{*ℤ_comm}
use Rattle.std.proofs.Math.Nat.{mul_comm}
use Rattle.std.proofs.lemmas.Int.{ints}
use borrow.Author.Differences.{up, down, neg_is, sum_is_lem, product_is}
use lib.IntN.{neg_ℤ}

mul_assoc : (a b c : ℤ) → (a *ℤ b) *ℤ c ≡ a *ℤ (b *ℤ c)
mul_assoc a b c =
    let ab = product_is a b in
    let bc = product_is b c in
    omega (
      arith,
      ints,
      ap (λ n. n * up c) ab.0,
      ap (λ n. n * down c) ab.0,
      ap (λ n. n * up c) ab.1,
      ap (λ n. n * down c) ab.1,
      ap (λ n. up a * n) bc.0,
      ap (λ n. down a * n) bc.0,
      ap (λ n. up a * n) bc.1,
      ap (λ n. down a * n) bc.1,
    )

pub mul-pos_pos : (z : ℤ) (m n : ℕ) → z *ℤ pos m *ℤ pos n ≡ z *ℤ pos (m * n)
mul-pos_pos z m n =
    let e = product_is z (pos m) in
    omega (arith, ints, ap (λ k. k * n) e.0, ap (λ k. k * n) e.1)

pub add-mul_pos : (x y : ℤ) (n : ℕ) → (x +ℤ y) *ℤ pos n ≡ (x *ℤ pos n) +ℤ (y *ℤ pos n)
add-mul_pos x y n = omega (arith, ints, ap (λ k. k * n) (sum_is_lem x y))

pub neg-mul_pos : (x : ℤ) (n : ℕ) → neg_ℤ x *ℤ pos n ≡ neg_ℤ (x *ℤ pos n)
neg-mul_pos x n =
    let e = neg_is x in
    omega (arith, ints, ap (λ k. k * n) e.0, ap (λ k. k * n) e.1)

pub abs-neg : (x : ℤ) → unsigned_abs (neg_ℤ x) ≡ unsigned_abs x
abs-neg x = omega (arith, ints)

pub cross_scale : (n t : ℤ) (d den s : ℕ) → n *ℤ pos den ≡ t *ℤ pos d → n *ℤ pos (den * s) ≡ t *ℤ pos s *ℤ pos d
cross_scale n t d den s h =
    sym (mul-pos_pos n den s) ∙ ap (λ z. z *ℤ pos s) h ∙ mul-pos_pos t d s ∙ ap (λ k. t *ℤ pos k) (mul_comm d s) ∙ sym (mul-pos_pos t s d)

pub mul-mul_pos : (y z : ℤ) (m n : ℕ) → (y *ℤ pos m) *ℤ (z *ℤ pos n) ≡ y *ℤ z *ℤ pos (m * n)
mul-mul_pos y z m n =
    mul_assoc y (pos m) (z *ℤ pos n)
    ∙ ap (λ k. y *ℤ k) (*ℤ_comm (pos m) (z *ℤ pos n) ∙ mul-pos_pos z n m ∙ ap (λ k. z *ℤ pos k) (mul_comm n m))
    ∙ sym (mul_assoc y z (pos (m * n)))
