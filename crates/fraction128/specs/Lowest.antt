-- What follows from the greatest common divisor: fractions in lowest terms, and that each value has one such fraction.
use Rattle.std.proofs.Common.{zero, suc, ◌%◌, Bool, true, false, cond, ◌&&◌, nat_eq, refl, ◌⊎◌, inl, inr, ◌≡◌, ℕ, ◌*◌, ◌<◌, ◌≤◌, ◌/◌, arith, sym, ◌∙◌, ap, subst, ℤ, pos, negsuc, ◌*ℤ◌}
use Rattle.std.specs.Prelude.{unsigned_abs}
use Rattle.std.specs.Int.{IsGcd, ◌∣◌}
use Rattle.std.proofs.Math.Nat.{mul_comm, div-mul_cancel, mul-dvd-mul_right, eq-one_of_dvd-one, dvd_of_mul-dvd-mul_right, pos_of_dvd_of_pos, dvd_antisymm, dvd-mul_left, dvd-mul_right, eq_of_mul-eq-mul_right, mod-lt, eq-zero-or-pos}
use Rattle.std.proofs.lemmas.Nat.Gcd.{le_from_IsGcd, le_of_dvd, dvd_of_mod-eq-zero, mod-eq-zero_of_dvd, IsGcd-from_mod, IsGcd-from_zero, IsGcd-swap}
use Rattle.std.proofs.lemmas.Bool.{cases_lt}
use Rattle.std.proofs.lemmas.Int.{ints, unsigned_abs-mul}
use borrow.Author.Differences.{up, down, neg_is, product_is, same_out}
use lib.IntN.{neg_ℤ}
use Rattle.fraction128.specs.Divisors.{AreCoprime, AreCoprime-swap, dvd_of_coprime}
use Rattle.fraction128.specs.Reduced.{common_divisor_upto, gcd_of, IsReduced, lowest_num, lowest_den, with_sign_of}

pub gcd_pos : (a b g : ℕ) → 0 < b → IsGcd a b g → 0 < g
gcd_pos a b g p h = pos_of_dvd_of_pos h.1 p

-- a/g over b/g is a over b
pub same_ratio : (a b g : ℕ) → IsGcd a b g → (a / g) * b ≡ a * (b / g)
same_ratio a b g h =
    let ea : a / g * g ≡ a = div-mul_cancel g h.0 in
    let eb : b / g * g ≡ b = div-mul_cancel g h.1 in
    ap (λ n. a / g * n) (sym eb) ∙ omega arith ∙ ap (λ n. n * (b / g)) ea

pub no_common : (a b g : ℕ) → 0 < b → IsGcd a b g → AreCoprime (a / g) (b / g)
no_common a b g p h = λ d da db.
    let ea : a / g * g ≡ a = div-mul_cancel g h.0 in
    let eb : b / g * g ≡ b = div-mul_cancel g h.1 in
    let ha : d * g ∣ a = rw ea at (mul-dvd-mul_right d da g) in
    let hb : d * g ∣ b = rw eb at (mul-dvd-mul_right d db g) in
    let hg : d * g ∣ 1 * g = let P : ℕ → Type 0 = λ n. d * g ∣ n in subst P (sym (one_times g)) (h.2 (d * g) ha hb) in
    eq-one_of_dvd-one (dvd_of_mul-dvd-mul_right d (gcd_pos a b g p h) hg)
  where
    one_times : (n : ℕ) → 1 * n ≡ n
    one_times n = omega arith

pub quotient_pos : (a b g : ℕ) → 0 < b → IsGcd a b g → 0 < b / g
quotient_pos a b g p h =
    let eb : b / g * g ≡ b = div-mul_cancel g h.1 in grind arith

-- ---- the divisor by search

pick : (a b n g : ℕ) (t : Bool) → (t ≡ true → suc n ≤ g) → (g ≡ suc n → t ≡ true) → (g ≤ n → common_divisor_upto a b n ≡ g) → g ≤ suc n → cond t (suc n) (common_divisor_upto a b n) ≡ g
pick a b n g true above here below le = let h = above refl in omega arith
pick a b n g false above here below le = below (not_here (λ e. here e))
  where
    not_here : (g ≡ suc n → false ≡ true) → g ≤ n
    not_here f = within (cases_lt n g)
      where
        within : (n < g) ⊎ (g ≤ n) → g ≤ n
        within (inr h) = h
        within (inl h) = let e : g ≡ suc n = omega arith in let x : false ≡ true = f e in absurd (cc)

divides_both : (a b m : ℕ) → (nat_eq (a % m) 0 && nat_eq (b % m) 0) ≡ true → (a % m ≡ 0) × (b % m ≡ 0)
divides_both a b m h = (grind arith, grind arith)

no_rest : (a b m : ℕ) → a % m ≡ 0 → b % m ≡ 0 → (nat_eq (a % m) 0 && nat_eq (b % m) 0) ≡ true
no_rest a b m p q = grind arith

common_is : (a b g : ℕ) → 0 < g → IsGcd a b g → (n : ℕ) → g ≤ n → common_divisor_upto a b n ≡ g
unfolding common_divisor_upto
common_is a b g some h zero le = absurd (omega arith)
common_is a b g some h (suc n) le =
    pick a b n g (nat_eq (a % suc n) 0 && nat_eq (b % suc n) 0)
    (λ t. let d = divides_both a b (suc n) t in le_from_IsGcd a b g (suc n) h some (dvd_of_mod-eq-zero (suc n) d.0) (dvd_of_mod-eq-zero (suc n) d.1))
    (λ e. let ha : g ∣ a = h.0 in let hb : g ∣ b = h.1 in no_rest a b (suc n) (let P : ℕ → Type 0 = λ m. a % m ≡ 0 in subst P e (mod-eq-zero_of_dvd g ha)) (let P : ℕ → Type 0 = λ m. b % m ≡ 0 in subst P e (mod-eq-zero_of_dvd g hb)))
    (common_is a b g some h n) le

pub gcd_is : (a b g : ℕ) → 0 < b → IsGcd a b g → g ≡ gcd_of a b
gcd_is a b g p h = sym (common_is a b g (gcd_pos a b g p h) h b (le_of_dvd p h.1))

pub gcd_of-swap : (a b g : ℕ) → 0 < a → 0 < b → IsGcd a b g → gcd_of a b ≡ gcd_of b a
gcd_of-swap a b g p q h = sym (gcd_is a b g q h) ∙ gcd_is b a g p (IsGcd-swap a b g h)

-- each pair has a greatest common divisor
some_gcd : (most a b : ℕ) → b ≤ most → (g : ℕ) × IsGcd a b g
some_gcd zero a b le = (a, IsGcd-from_zero a b (omega arith))
some_gcd (suc most) a b le =
    elim (eq-zero-or-pos b) [
      | inl e ↦ (a, IsGcd-from_zero a b e)
      | inr some ↦
          let less : a % b ≤ most = omega (arith, mod-lt a some) in
          let found = some_gcd most b (a % b) less in
          (found.0, IsGcd-from_mod a b found.0 found.1)
    ]

pub IsGcd-gcd_of : (a b : ℕ) → 0 < b → IsGcd a b (gcd_of a b)
IsGcd-gcd_of a b some =
    let found = some_gcd b a b (omega arith) in
    let P : ℕ → Type 0 = λ g. IsGcd a b g in
    subst P (gcd_is a b found.0 some found.1) found.1

-- ---- cross products

-- an equation of cross products, in natural numbers
pub cross_out : (n m : ℤ) (d e : ℕ) → n *ℤ pos d ≡ m *ℤ pos e → (up n * d ≡ up m * e) × (down n * d ≡ down m * e)
cross_out n m d e h =
    (omega (arith, ints, same_out (n *ℤ pos d) (m *ℤ pos e) h), omega (arith, ints, same_out (n *ℤ pos d) (m *ℤ pos e) h))

pub cross_in : (n m : ℤ) (d e : ℕ) → up n * d ≡ up m * e → down n * d ≡ down m * e → n *ℤ pos d ≡ m *ℤ pos e
cross_in n m d e h k = omega (arith, ints, h, k)

pub abs_cross : (n m : ℤ) (d e : ℕ) → n *ℤ pos d ≡ m *ℤ pos e → unsigned_abs n * d ≡ unsigned_abs m * e
abs_cross n m d e h = sym (unsigned_abs-mul n (pos d)) ∙ ap unsigned_abs h ∙ unsigned_abs-mul m (pos e)

-- equal by cross products, from n/d to m/e to k/f
pub cross_trans : (n m k : ℤ) (d e f : ℕ) → 0 < e → n *ℤ pos e ≡ m *ℤ pos d → m *ℤ pos f ≡ k *ℤ pos e → n *ℤ pos f ≡ k *ℤ pos d
cross_trans n m k d e f some h j =
    let a = cross_out n m e d h in
    let b = cross_out m k f e j in
    cross_in n k f d
    (eq_of_mul-eq-mul_right e some (up n * f) (up k * d) (omega (arith, ap (λ x. x * f) a.0, ap (λ x. x * d) b.0)))
    (eq_of_mul-eq-mul_right e some (down n * f) (down k * d) (omega (arith, ap (λ x. x * f) a.1, ap (λ x. x * d) b.1)))

-- ---- lowest terms

-- a fraction in lowest terms divides each fraction that equals it, above and below
pub den_dvd : (n k : ℤ) (d e : ℕ) → IsReduced n d → n *ℤ pos e ≡ k *ℤ pos d → d ∣ e
den_dvd n k d e reduced h =
    let P : ℕ → Type 0 = λ x. d ∣ x in
    let apart = AreCoprime-swap (unsigned_abs n) d reduced.lowest in
    dvd_of_coprime d (unsigned_abs n) e apart (subst P (sym (abs_cross n k e d h)) (dvd-mul_left d (unsigned_abs k)))

pub num_dvd : (n k : ℤ) (d e : ℕ) → IsReduced n d → n *ℤ pos e ≡ k *ℤ pos d → unsigned_abs n ∣ unsigned_abs k
num_dvd n k d e reduced h =
    let P : ℕ → Type 0 = λ x. unsigned_abs n ∣ x in
    dvd_of_coprime (unsigned_abs n) d (unsigned_abs k) reduced.lowest
    (subst P (abs_cross n k e d h ∙ mul_comm (unsigned_abs k) d) (dvd-mul_right (unsigned_abs n) e))

-- equal fractions in lowest terms have one numerator and one denominator
pub IsReduced-unique : (n k : ℤ) (d e : ℕ) → IsReduced n d → IsReduced k e → n *ℤ pos e ≡ k *ℤ pos d → (n ≡ k) × (d ≡ e)
IsReduced-unique n k d e first second h =
    let same : d ≡ e = dvd_antisymm (den_dvd n k d e first h) (den_dvd k n e d second (sym h)) in
    let some : 0 < d = first.positive in
    let parts = cross_out n k e d h in
    let up_same : up n ≡ up k = eq_of_mul-eq-mul_right d some (up n) (up k) (ap (λ x. up n * x) same ∙ parts.0) in
    let down_same : down n ≡ down k = eq_of_mul-eq-mul_right d some (down n) (down k) (ap (λ x. down n * x) same ∙ parts.1) in
    (omega (arith, ints), same)

abs_with_sign : (z : ℤ) (n : ℕ) → unsigned_abs (with_sign_of z n) ≡ n
abs_with_sign (pos a) n = refl
abs_with_sign (negsuc a) n = omega (arith, ints)

pub abs-lowest_num : (num : ℤ) (den : ℕ) → unsigned_abs (lowest_num num den) ≡ unsigned_abs num / gcd_of (unsigned_abs num) den
abs-lowest_num num den = abs_with_sign num (unsigned_abs num / gcd_of (unsigned_abs num) den)

-- a size's quotient, under the number's sign
sign_cross : (z : ℤ) (size d e : ℕ) → size * d ≡ unsigned_abs z * e → with_sign_of z size *ℤ pos d ≡ z *ℤ pos e
sign_cross (pos a) size d e h = ap pos h
sign_cross (negsuc a) size d e h =
    let below = neg_is (pos size) in
    omega (arith, ints, h, product_is (neg_ℤ (pos size)) (pos d), ap (λ n. n * d) below.0, ap (λ n. n * d) below.1)

pub IsReduced-lowest : (num : ℤ) (den : ℕ) → 0 < den → IsReduced (lowest_num num den) (lowest_den num den)
IsReduced-lowest num den some =
    let greatest = IsGcd-gcd_of (unsigned_abs num) den some in
    let g : ℕ = gcd_of (unsigned_abs num) den in
    let P : ℕ → Type 0 = λ n. AreCoprime n (den / g) in
    record {
      positive = quotient_pos (unsigned_abs num) den g some greatest;
      lowest = subst P (sym (abs-lowest_num num den)) (no_common (unsigned_abs num) den g some greatest);
    }

-- num/den in lowest terms has the value of num/den
pub cross-lowest : (num : ℤ) (den : ℕ) → 0 < den → lowest_num num den *ℤ pos den ≡ num *ℤ pos (lowest_den num den)
cross-lowest num den some =
    let g : ℕ = gcd_of (unsigned_abs num) den in
    sign_cross num (unsigned_abs num / g) den (den / g) (same_ratio (unsigned_abs num) den g (IsGcd-gcd_of (unsigned_abs num) den some))

-- a fraction in lowest terms that equals num/den is num/den in lowest terms
pub lowest_unique : (n num : ℤ) (d den : ℕ) → 0 < den → IsReduced n d → n *ℤ pos den ≡ num *ℤ pos d → (n ≡ lowest_num num den) × (d ≡ lowest_den num den)
lowest_unique n num d den some reduced h =
    let low = cross-lowest num den some in
    IsReduced-unique n (lowest_num num den) d (lowest_den num den) reduced (IsReduced-lowest num den some)
    (cross_trans n num (lowest_num num den) d den (lowest_den num den) some h (sym low))
