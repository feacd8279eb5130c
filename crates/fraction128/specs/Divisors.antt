-- Common divisors, and numbers that have none but 1.
use Rattle.std.specs.Prelude.{◌≡◌, ℕ, zero, suc, ◌+◌, ◌*◌, ◌/◌, ◌%◌, ◌-◌, ◌≤◌, ℤ, pos, negsuc, ◌+ℤ◌, unsigned_abs}
use Rattle.std.specs.Int.{IsGcd, ◌∣◌}
use Rattle.std.proofs.Common.{arith, sym, ap, subst, inl, inr}
use Rattle.std.proofs.Math.Nat.{mul_comm, one-dvd, dvd-add, dvd-sub, dvd-add_iff_right, dvd-mod_iff, dvd-mul_left, dvd-mul_right_of_dvd, dvd_trans, mod-lt, div-add-mod, eq-zero-or-pos}
use Rattle.std.proofs.lemmas.Nat.Gcd.{dvd_refl, IsGcd-from_zero, same_from_IsGcd}
use Rattle.std.proofs.lemmas.Int.{ints}

-- no number but 1 divides both
abbrev pub AreCoprime : ℕ → ℕ → Type 0
AreCoprime m n = (d : ℕ) → d ∣ m → d ∣ n → d ≡ 1

pub AreCoprime-swap : (m n : ℕ) → AreCoprime m n → AreCoprime n m
AreCoprime-swap m n apart = λ d h k. apart d k h

pub AreCoprime-dvd_right : (m n k : ℕ) → k ∣ n → AreCoprime m n → AreCoprime m k
AreCoprime-dvd_right m n k within apart = λ d h kh. apart d h (dvd_trans d kh within)

-- the step of Euclid's loop
IsGcd-to_mod : (a b g : ℕ) → IsGcd a b g → IsGcd b (a % b) g
IsGcd-to_mod a b g h =
    (h.1, (dvd-mod_iff g {m = a} {n = b} h.1).1 h.0, λ d p q. h.2 d ((dvd-mod_iff d {m = a} {n = b} p).0 q) p)

-- what divides c·a and c·b divides c times their greatest common divisor
dvd_scaled_upto : (most a b g c d : ℕ) → b ≤ most → IsGcd a b g → d ∣ c * a → d ∣ c * b → d ∣ c * g
dvd_scaled_upto zero a b g c d le h in_a in_b =
    let e : b ≡ 0 = omega arith in
    let P : ℕ → Type 0 = λ n. d ∣ c * n in
    subst P (same_from_IsGcd a b a g (IsGcd-from_zero a b e) h) in_a
dvd_scaled_upto (suc most) a b g c d le h in_a in_b =
    let P : ℕ → Type 0 = λ n. d ∣ n in
    elim (eq-zero-or-pos b) [
      | inl e ↦ subst (λ (n : ℕ). d ∣ c * n) (same_from_IsGcd a b a g (IsGcd-from_zero a b e) h) in_a
      | inr some ↦
          let split : c * (b * (a / b)) + c * (a % b) ≡ c * a = omega (arith, ap (λ n. c * n) (div-add-mod a b)) in
          let regroup : c * b * (a / b) ≡ c * (b * (a / b)) = omega arith in
          let front : d ∣ c * (b * (a / b)) = subst P regroup (dvd-mul_right_of_dvd d in_b (a / b)) in
          let in_rest : d ∣ c * (a % b) = (dvd-add_iff_right d {m = c * (b * (a / b))} {n = c * (a % b)} front).1 (subst P (sym split) in_a) in
          let less : a % b ≤ most = omega (arith, mod-lt a some) in
          dvd_scaled_upto most b (a % b) g c d less (IsGcd-to_mod a b g h) in_b in_rest
    ]

-- a divisor of m·n that shares none with m divides n
pub dvd_of_coprime : (d m n : ℕ) → AreCoprime d m → d ∣ m * n → d ∣ n
dvd_of_coprime d m n apart h =
    let P : ℕ → Type 0 = λ k. d ∣ k in
    let greatest : IsGcd d m 1 = (one-dvd d, one-dvd m, λ e p q. let Q : ℕ → Type 0 = λ k. k ∣ 1 in subst Q (sym (apart e p q)) (dvd_refl 1)) in
    let once : n * 1 ≡ n = omega arith in
    subst P once (dvd_scaled_upto m d m 1 n d (omega arith) greatest (dvd-mul_left d n) (subst P (mul_comm m n) h))

pub AreCoprime-mul : (a b n : ℕ) → AreCoprime a n → AreCoprime b n → AreCoprime (a * b) n
AreCoprime-mul a b n apart_a apart_b = λ d h k.
    apart_b d (dvd_of_coprime d a b (λ e p q. apart_a e q (dvd_trans e p k)) h) k

-- ---- signed numbers

-- what divides the sizes of two numbers divides that of their sum
pub dvd_abs-add : (d : ℕ) (x y : ℤ) → d ∣ unsigned_abs x → d ∣ unsigned_abs y → d ∣ unsigned_abs (x +ℤ y)
dvd_abs-add d (pos a) (pos b) h k = dvd-add d h k
dvd_abs-add d (pos a) (negsuc b) h k =
    let e : (a - suc b) + (suc b - a) ≡ unsigned_abs (pos a +ℤ negsuc b) = omega (arith, ints) in
    let P : ℕ → Type 0 = λ n. d ∣ n in
    subst P e (dvd-add d (dvd-sub d h k) (dvd-sub d k h))
dvd_abs-add d (negsuc a) (pos b) h k =
    let e : (b - suc a) + (suc a - b) ≡ unsigned_abs (negsuc a +ℤ pos b) = omega (arith, ints) in
    let P : ℕ → Type 0 = λ n. d ∣ n in
    subst P e (dvd-add d (dvd-sub d k h) (dvd-sub d h k))
dvd_abs-add d (negsuc a) (negsuc b) h k =
    let e : suc a + suc b ≡ unsigned_abs (negsuc a +ℤ negsuc b) = omega (arith, ints) in
    let P : ℕ → Type 0 = λ n. d ∣ n in
    subst P e (dvd-add d h k)
