-- Sums and differences over the least common denominator: b = p·s and e = q·s, where p and q share no divisor.
use Rattle.std.proofs.Common.{◌≡◌, ℕ, ◌*◌, ◌<◌, ℤ, pos, ◌+ℤ◌, ◌-ℤ◌, ◌*ℤ◌, arith, sym, ap, subst, ◌∙◌}
use Rattle.std.specs.Prelude.{unsigned_abs}
use Rattle.std.specs.Int.{◌∣◌}
use Rattle.std.proofs.Math.Nat.{mul_comm, mul-pos, dvd_trans, dvd-mul_left}
use Rattle.std.proofs.lemmas.Int.{ints, unsigned_abs-mul}
use lib.IntN.{neg_ℤ}
use Rattle.fraction128.specs.Divisors.{AreCoprime, AreCoprime-swap, AreCoprime-dvd_right, AreCoprime-mul, dvd_of_coprime, dvd_abs-add}
use Rattle.fraction128.specs.Reduced.{IsReduced, lowest_den}
use Rattle.fraction128.specs.Lowest.{num_dvd, lowest_unique}
use Rattle.fraction128.proofs.Scaled.{mul-pos_pos, add-mul_pos, neg-mul_pos, abs-neg, cross_scale}

-- ---- what the total shares with the denominators

-- t = a·q + r, where p divides r and shares nothing with a and q
total_apart : (a r : ℤ) (p q : ℕ) → AreCoprime (unsigned_abs a) p → AreCoprime q p → p ∣ unsigned_abs r → AreCoprime (unsigned_abs (a *ℤ pos q +ℤ r)) p
total_apart a r p q apart_a apart_q in_r = λ d h k.
    let P : ℕ → Type 0 = λ n. d ∣ n in
    let Q : ℤ → Type 0 = λ z. d ∣ unsigned_abs z in
    let t : ℤ = a *ℤ pos q +ℤ r in
    let in_neg : d ∣ unsigned_abs (neg_ℤ r) = subst P (sym (abs-neg r)) (dvd_trans d k in_r) in
    let back : t +ℤ neg_ℤ r ≡ a *ℤ pos q = omega (arith, ints) in
    let in_product : d ∣ unsigned_abs a * q = subst P (unsigned_abs-mul a (pos q)) (subst Q back (dvd_abs-add d t (neg_ℤ r) h in_neg)) in
    let apart : AreCoprime d q = λ e u v. apart_q e v (dvd_trans e u k) in
    apart_a d (dvd_of_coprime d q (unsigned_abs a) apart (subst P (mul_comm (unsigned_abs a) q) in_product)) k

pub sum_apart : (a c : ℤ) (p q : ℕ) → AreCoprime (unsigned_abs a) p → AreCoprime (unsigned_abs c) q → AreCoprime p q → AreCoprime (unsigned_abs (a *ℤ pos q +ℤ c *ℤ pos p)) (p * q)
sum_apart a c p q apart_a apart_c apart =
    let t : ℕ = unsigned_abs (a *ℤ pos q +ℤ c *ℤ pos p) in
    let P : ℕ → Type 0 = λ n. p ∣ n in
    let Q : ℕ → Type 0 = λ n. q ∣ n in
    let R : ℤ → Type 0 = λ z. AreCoprime (unsigned_abs z) q in
    let swapped : c *ℤ pos p +ℤ a *ℤ pos q ≡ a *ℤ pos q +ℤ c *ℤ pos p = omega (arith, ints) in
    let with_p : AreCoprime t p = total_apart a (c *ℤ pos p) p q apart_a (AreCoprime-swap p q apart) (subst P (sym (unsigned_abs-mul c (pos p))) (dvd-mul_left p (unsigned_abs c))) in
    let with_q : AreCoprime t q = subst R swapped (total_apart c (a *ℤ pos q) q p apart_c apart (subst Q (sym (unsigned_abs-mul a (pos q))) (dvd-mul_left q (unsigned_abs a)))) in
    AreCoprime-swap (p * q) t (AreCoprime-mul p q t (AreCoprime-swap t p with_p) (AreCoprime-swap t q with_q))

pub difference_apart : (a c : ℤ) (p q : ℕ) → AreCoprime (unsigned_abs a) p → AreCoprime (unsigned_abs c) q → AreCoprime p q → AreCoprime (unsigned_abs (a *ℤ pos q -ℤ c *ℤ pos p)) (p * q)
difference_apart a c p q apart_a apart_c apart =
    let P : ℤ → Type 0 = λ z. AreCoprime (unsigned_abs (a *ℤ pos q +ℤ z)) (p * q) in
    let Q : ℕ → Type 0 = λ n. AreCoprime n q in
    subst P (neg-mul_pos c p) (sum_apart a (neg_ℤ c) p q apart_a (subst Q (sym (abs-neg c)) apart_c) apart)

-- ---- the total in lowest terms

-- n/d is t/s in lowest terms, and t shares nothing with p and q
pub over_reduced : (t n : ℤ) (p q s d : ℕ) → 0 < p → 0 < q → AreCoprime (unsigned_abs t) (p * q) → IsReduced n d → n *ℤ pos s ≡ t *ℤ pos d → IsReduced n (d * p * q)
over_reduced t n p q s d some_p some_q apart reduced h =
    let size : ℕ = unsigned_abs n in
    let apart_parts : AreCoprime (p * q) size = AreCoprime-dvd_right (p * q) (unsigned_abs t) size (num_dvd n t d s reduced h) (AreCoprime-swap (unsigned_abs t) (p * q) apart) in
    let whole : AreCoprime (d * (p * q)) size = AreCoprime-mul d (p * q) size (AreCoprime-swap size d reduced.lowest) apart_parts in
    let regroup : d * (p * q) ≡ d * p * q = omega arith in
    let Q : ℕ → Type 0 = λ k. AreCoprime size k in
    record {
      positive = mul-pos (mul-pos reduced.positive some_p) some_q;
      lowest = subst Q regroup (AreCoprime-swap (d * (p * q)) size whole);
    }

pub over_value : (t n : ℤ) (p q s d : ℕ) → n *ℤ pos s ≡ t *ℤ pos d → n *ℤ pos (s * p * q) ≡ t *ℤ pos (d * p * q)
over_value t n p q s d h =
    let e : s * (p * q) ≡ s * p * q = omega arith in
    let f : p * q * d ≡ d * p * q = omega arith in
    ap (λ k. n *ℤ pos k) (sym e) ∙ cross_scale n t d s (p * q) h ∙ mul-pos_pos t (p * q) d ∙ ap (λ k. t *ℤ pos k) f

pub over_den : (t n : ℤ) (p q s d : ℕ) → 0 < p → 0 < q → 0 < s → AreCoprime (unsigned_abs t) (p * q) → IsReduced n d → n *ℤ pos s ≡ t *ℤ pos d → d * p * q ≡ lowest_den t (s * p * q)
over_den t n p q s d some_p some_q some_s apart reduced h =
    (lowest_unique n t (d * p * q) (s * p * q) (mul-pos (mul-pos some_s some_p) some_q) (over_reduced t n p q s d some_p some_q apart reduced h) (over_value t n p q s d h)).1

-- ---- back to both denominators

pub sum_value : (a c n : ℤ) (p q s d : ℕ) → n *ℤ pos (s * p * q) ≡ (a *ℤ pos q +ℤ c *ℤ pos p) *ℤ pos d → n *ℤ pos (p * s * (q * s)) ≡ ((a *ℤ pos (q * s)) +ℤ (c *ℤ pos (p * s))) *ℤ pos d
sum_value a c n p q s d h =
    let e : p * s * (q * s) ≡ s * p * q * s = omega arith in
    ap (λ k. n *ℤ pos k) e ∙ cross_scale n (a *ℤ pos q +ℤ c *ℤ pos p) d (s * p * q) s h
    ∙ ap (λ z. z *ℤ pos d) (add-mul_pos (a *ℤ pos q) (c *ℤ pos p) s ∙ ap (λ z. z +ℤ c *ℤ pos p *ℤ pos s) (mul-pos_pos a q s) ∙ ap (λ z. a *ℤ pos (q * s) +ℤ z) (mul-pos_pos c p s))

pub difference_value : (a c n : ℤ) (p q s d : ℕ) → n *ℤ pos (s * p * q) ≡ (a *ℤ pos q -ℤ c *ℤ pos p) *ℤ pos d → n *ℤ pos (p * s * (q * s)) ≡ ((a *ℤ pos (q * s)) -ℤ (c *ℤ pos (p * s))) *ℤ pos d
difference_value a c n p q s d h =
    let P : ℤ → Type 0 = λ z. n *ℤ pos (s * p * q) ≡ (a *ℤ pos q +ℤ z) *ℤ pos d in
    sum_value a (neg_ℤ c) n p q s d (subst P (sym (neg-mul_pos c p)) h)
    ∙ ap (λ z. (a *ℤ pos (q * s) +ℤ z) *ℤ pos d) (neg-mul_pos c (p * s))
