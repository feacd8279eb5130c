-- What tests on positions say, what an order costs, and the arithmetic of a span.
use Rattle.std.proofs.Common.{◌≡◌, ℕ, ◌+◌, ◌*◌, ◌≤◌, ℤ, pos, ◌+ℤ◌, ◌*ℤ◌, ◌≤ℤ◌, ◌<ℤ◌, Bool, true, false, refl, sym, ◌∙◌, ap, subst, arith, mul-le-mul_left, ◌⊎◌, inl, inr, if◌then◌else◌}
use Rattle.std.proofs.lemmas.Int.{ints}
use Rattle.std.specs.Prelude.{int_le, int_lt}
use Rattle.demand_law.specs.Integers as Z
use Rattle.decision_model.specs.AverageProblem.{order_charge}
use Rattle.decision_model.specs.PositionTests.{le_test}
use Rattle.value_cert.specs.AverageLeast.{pair_choice}
use Rattle.decision_model.specs.declared.average.Average.{Average}

-- two positions, one way or the other
pub by_order : (a b : ℤ) → (a ≤ℤ b) ⊎ (b <ℤ a)
by_order a b = go (int_le a b) refl
  where
    go : (t : Bool) → int_le a b ≡ t → (a ≤ℤ b) ⊎ (b <ℤ a)
    go true e = inl (grind (arith, ints))
    go false e = inr (grind (arith, ints))

pub lt_test : (a b : ℤ) → a <ℤ b → int_lt a b ≡ true
lt_test a b h = grind (arith, ints)

pub no_lt_test : (a b : ℤ) → b ≤ℤ a → int_lt a b ≡ false
no_lt_test a b h = grind (arith, ints)

pub no_le_test : (a b : ℤ) → b <ℤ a → int_le a b ≡ false
no_le_test a b h = grind (arith, ints)

pub order_charge_is : (item : Average) (x y : ℤ) → x <ℤ y → order_charge item x y ≡ item.setup
unfolding order_charge
order_charge_is item x y h = ap (λ b. if b then item.setup else 0) (lt_test x y h)

pub no_order_charge : (item : Average) (x y : ℤ) → y ≤ℤ x → order_charge item x y ≡ 0
unfolding order_charge
no_order_charge item x y h = ap (λ b. if b then item.setup else 0) (no_lt_test x y h)

pub choice_up : (low high x : ℤ) → x ≤ℤ low → pair_choice low high x ≡ high
choice_up low high x h = ap (λ b. if b then high else x) (le_test x low h)

pub choice_stays : (low high x : ℤ) → low <ℤ x → pair_choice low high x ≡ x
choice_stays low high x h = ap (λ b. if b then high else x) (no_le_test x low h)

-- a factor goes from both sides
pub cancel : (s : ℕ) (a b : ℤ) → 1 ≤ s → (pos s *ℤ a) ≤ℤ (pos s *ℤ b) → a ≤ℤ b
cancel s a b some h = go (by_order a b)
  where
    go : (a ≤ℤ b) ⊎ (b <ℤ a) → a ≤ℤ b
    go (inl le) = le
    go (inr lt) =
        let more : (b +ℤ pos 1) ≤ℤ a = omega (arith, ints) in
        omega (arith, ints, Z.weight_mono s (b +ℤ pos 1) a more, Z.mul_add (pos s) b (pos 1))

-- pos s * (pos a * e + pos b), multiplied out
times_line : (s a b : ℕ) (e : ℤ) → pos s *ℤ (pos a *ℤ e +ℤ pos b) ≡ pos (s * a) *ℤ e +ℤ pos (s * b)
times_line s a b e = Z.mul_add (pos s) (pos a *ℤ e) (pos b) ∙ ap (λ z. z +ℤ pos (s * b)) (sym (Z.mul_assoc (pos s) (pos a) e))

-- from an inequality over the common denominator to one over the span's; P is W^n and Q is W^lead
pub least_numbers : (n num den snum sden scale P Q b v : ℕ) (cost rest : ℤ) → 1 ≤ scale
    → (pos (n * num * scale * (P * Q) + P * v) +ℤ rest) ≤ℤ (pos (den * scale) *ℤ cost) → pos 0 ≤ℤ (rest +ℤ pos (P * b)) → sden * b ≤ snum * (den * Q * scale)
    → pos (n * num * sden * (P * Q)) ≤ℤ (pos (den * sden) *ℤ cost +ℤ pos (snum * den * (P * Q)))
least_numbers n num den snum sden scale P Q b v cost rest some bound end within =
    let first : pos (n * num * scale * (P * Q)) ≤ℤ (pos (den * scale) *ℤ cost +ℤ pos (P * b)) = omega (arith, ints) in
    let second = Z.weight_mono sden _ _ first in
    let third : pos (sden * (n * num * scale * (P * Q))) ≤ℤ (pos (sden * (den * scale)) *ℤ cost +ℤ pos (sden * (P * b))) =
    subst (λ (z : ℤ). pos (sden * (n * num * scale * (P * Q))) ≤ℤ z) (times_line sden (den * scale) (P * b) cost) second in
    let most : sden * (P * b) ≤ scale * (snum * den * (P * Q)) = omega (arith, mul-le-mul_left P within) in
    let left : sden * (n * num * scale * (P * Q)) ≡ scale * (n * num * sden * (P * Q)) = omega arith in
    let right : sden * (den * scale) ≡ scale * (den * sden) = omega arith in
    let fourth : pos (scale * (n * num * sden * (P * Q))) ≤ℤ (pos (scale * (den * sden)) *ℤ cost +ℤ pos (scale * (snum * den * (P * Q)))) =
    plain _ _ _ _ _ _ cost third left right most in
    cancel scale _ _ some (subst (λ (z : ℤ). pos (scale * (n * num * sden * (P * Q))) ≤ℤ z) (sym (times_line scale (den * sden) (snum * den * (P * Q)) cost)) fourth)
  where
    plain : (a b c a' b' c' : ℕ) (e : ℤ) → pos a ≤ℤ (pos b *ℤ e +ℤ pos c) → a ≡ a' → b ≡ b' → c ≤ c' → pos a' ≤ℤ (pos b' *ℤ e +ℤ pos c')
    plain a b c a' b' c' e h p q le = omega (arith, ints, ap (λ k. pos k *ℤ e) q)

pub most_numbers : (n num den snum sden scale P Q v : ℕ) (cost rest : ℤ) → 1 ≤ scale
    → (pos (den * scale) *ℤ cost) ≤ℤ (pos (n * num * scale * (P * Q) + P * v) +ℤ rest) → rest ≤ℤ pos 0 → sden * v ≤ snum * (den * Q * scale)
    → (pos (den * sden) *ℤ cost) ≤ℤ pos ((n * num * sden + snum * den) * (P * Q))
most_numbers n num den snum sden scale P Q v cost rest some bound end within =
    let first : (pos (den * scale) *ℤ cost) ≤ℤ pos (n * num * scale * (P * Q) + P * v) = omega (arith, ints) in
    let second : (pos (sden * (den * scale)) *ℤ cost) ≤ℤ pos (sden * (n * num * scale * (P * Q) + P * v)) =
    subst (λ (z : ℤ). z ≤ℤ pos (sden * (n * num * scale * (P * Q) + P * v))) (sym (Z.mul_assoc (pos sden) (pos (den * scale)) cost)) (Z.weight_mono sden _ _ first) in
    let most : sden * (n * num * scale * (P * Q) + P * v) ≤ scale * ((n * num * sden + snum * den) * (P * Q)) = omega (arith, mul-le-mul_left P within) in
    let right : sden * (den * scale) ≡ scale * (den * sden) = omega arith in
    cancel scale _ _ some (subst (λ (z : ℤ). z ≤ℤ pos (scale * ((n * num * sden + snum * den) * (P * Q)))) (Z.mul_assoc (pos scale) (pos (den * sden)) cost) (plain _ _ _ _ cost second right most))
  where
    plain : (b c b' c' : ℕ) (e : ℤ) → (pos b *ℤ e) ≤ℤ pos c → b ≡ b' → c ≤ c' → (pos b' *ℤ e) ≤ℤ pos c'
    plain b c b' c' e h q le = omega (arith, ints, ap (λ k. pos k *ℤ e) q)
