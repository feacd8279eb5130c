-- Demand served first in, first out: what the dual prices of the demand that is still to be served say of its cost.
use Rattle.std.proofs.Common.{◌≡◌, ℕ, zero, suc, ◌+◌, ◌-◌, ◌*◌, ◌<◌, ◌≤◌, refl, sym, ◌∙◌, ap, arith, ◌⊎◌, inl, inr, mul-le-mul_left, cond, eqb}
use Rattle.std.proofs.Math.Nat.{mul-le-mul_right, one-le-mul}
use Rattle.std.proofs.lemmas.Bool.{cases_lt, cases_eq, eq-eqb, ne_eqb}
use Rattle.lot_lemmas.specs.LotSums.{sum_from, sum_from-first}

-- whole prices w of a unit, where each price v of a whole demand d is multiplied by one number
pub record HasUnitPrices (d v : ℕ → ℕ) (n : ℕ) : Type 0 where
  pub factor : ℕ
  pub w : ℕ → ℕ
  pub positive : 1 ≤ factor
  pub each : (k : ℕ) → k < n → d k * w k ≡ factor * v k

-- they exist where no demand has no price
pub unit_prices : (d v : ℕ → ℕ) (n : ℕ) → ((k : ℕ) → k < n → d k ≡ 0 → v k ≡ 0) → HasUnitPrices d v n
unit_prices d v zero free = record { factor = 1; w = λ k. 0; positive = omega arith; each = λ k lt. absurd (omega arith) }
unit_prices d v (suc n) free = next (d n) refl (unit_prices d v n (λ k lt none. free k (omega arith) none))
  where
    next : (e : ℕ) → d n ≡ e → HasUnitPrices d v n → HasUnitPrices d v (suc n)
    next zero none before = record {
      factor = before.factor;
      w = before.w;
      positive = before.positive;
      each = λ k lt. at k lt (cases_lt k n);
    }
      where
        at : (k : ℕ) → k < suc n → (k < n) ⊎ (n ≤ k) → d k * before.w k ≡ before.factor * v k
        at k lt (inl less) = before.each k less
        at k lt (inr more) =
            let same : k ≡ n = omega arith in
            rw same (ap (λ e. e * before.w n) none ∙ zeros (before.w n) before.factor ∙ ap (λ e. before.factor * e) (sym (free n (omega arith) none)))
          where
            zeros : (a b : ℕ) → 0 * a ≡ b * 0
            zeros a b = omega arith
    next (suc e) some before = record {
      factor = suc e * before.factor;
      w = λ k. cond (eqb k n) (before.factor * v n) (suc e * before.w k);
      positive = one-le-mul (omega arith) before.positive;
      each = λ k lt. at k (cases_eq k n) lt;
    }
      where
        at : (k : ℕ) → (k ≡ n) ⊎ (k ≡ n → ⊥) → k < suc n → d k * cond (eqb k n) (before.factor * v n) (suc e * before.w k) ≡ suc e * before.factor * v k
        at k (inl same) lt =
            ap (λ b. d k * cond b (before.factor * v n) (suc e * before.w k)) (eq-eqb k n same)
            ∙ ap (λ j. d j * (before.factor * v n)) same ∙ ap (λ x. x * (before.factor * v n)) some
            ∙ times (suc e) before.factor (v n) ∙ ap (λ j. suc e * before.factor * v j) (sym same)
          where
            times : (a b c : ℕ) → a * (b * c) ≡ a * b * c
            times a b c = omega arith
        at k (inr other) lt =
            ap (λ b. d k * cond b (before.factor * v n) (suc e * before.w k)) (ne_eqb k n other)
            ∙ times (d k) (suc e) (before.w k) ∙ ap (λ x. suc e * x) (before.each k (omega arith)) ∙ again (suc e) before.factor (v k)
          where
            times : (a b c : ℕ) → a * (b * c) ≡ b * (a * c)
            times a b c = omega arith

            again : (a b c : ℕ) → a * (b * c) ≡ a * b * c
            again a b c = omega arith

-- a part of a demand d is worth no more than its cost at c a unit, and what the whole demand is worth above its cost
share_above : (x d m v c e f : ℕ) → x ≤ d → d * (m * c + f) ≡ m * v → v ≤ e + d * c → x * (m * c + f) ≤ x * (m * c) + m * e
share_above x d m v c e f part worth over =
    let whole = mul-le-mul_left m over in
    let rest = mul-le-mul_right f part in
    omega (arith, whole, rest, worth)

share : (x d w m v c e : ℕ) → x ≤ d → d * w ≡ m * v → v ≤ e + d * c → x * w ≤ x * (m * c) + m * e
share x d w m v c e part worth over = by_order (cases_lt w (m * c))
  where
    by_order : (w < m * c) ⊎ (m * c ≤ w) → x * w ≤ x * (m * c) + m * e
    by_order (inl less) = let h : w ≤ m * c = omega arith in omega (arith, mul-le-mul_left x h)
    by_order (inr more) =
        let f : ℕ = w - m * c in
        let split : m * c + f ≡ w = omega arith in
        let above = share_above x d m v c e f part (ap (λ n. d * n) split ∙ worth) over in
        let same : x * (m * c + f) ≡ x * w = ap (λ n. x * n) split in
        omega (arith, above, same)

-- the worth of the demand of n periods from t on that a stock of s at the beginning of t leaves to be served, and the cost of holding the stock
unfoldable pub worth : (d w h : ℕ → ℕ) → ℕ → ℕ → ℕ → ℕ → ℕ
worth d w h m t zero s = 0
worth d w h m t (suc n) s = (d t - s) * w t + m * (h t * (s - d t)) + worth d w h m (t + 1) n (s - d t)

-- how far the prices v of the demands exceed their costs, at c a unit at the beginning
unfoldable pub excess_from : (d v h : ℕ → ℕ) → ℕ → ℕ → ℕ → ℕ
excess_from d v h t zero c = 0
excess_from d v h t (suc n) c = (v t - d t * c) + excess_from d v h (t + 1) n (c + h t)

-- with q units more in stock, the demand that is left is worth less by no more than their cost and the excess
step_worth : (d w m v c e h s q more next : ℕ) → d * w ≡ m * v → v ≤ e + d * c → next ≤ more + m * ((c + h) * ((s + q - d) - (s - d))) → (d - s) * w + m * (h * (s - d)) + next ≤ (d - (s + q)) * w + m * (h * (s + q - d)) + more + m * (c * q) + m * e
step_worth d w m v c e h s q more next worth over rest =
    let x : ℕ = (d - s) - (d - (s + q)) in
    let y : ℕ = (s + q - d) - (s - d) in
    let left : ℕ = d - (s + q) in
    let kept : ℕ = s - d in
    let parts : x + y ≡ q = omega arith in
    let part : x ≤ d = omega arith in
    joined left kept x y q parts (d - s) (omega arith) (s + q - d) (omega arith) (share x d w m v c e part worth over) rest
  where
    joined : (left kept x y q : ℕ) → x + y ≡ q → (due : ℕ) → due ≡ left + x → (after : ℕ) → after ≡ kept + y → x * w ≤ x * (m * c) + m * e → next ≤ more + m * ((c + h) * y) → due * w + m * (h * kept) + next ≤ left * w + m * (h * after) + more + m * (c * q) + m * e
    joined left kept x y q parts due is_due after is_after shared rest =
        let first : due * w ≡ (left + x) * w = ap (λ n. n * w) is_due in
        let second : m * (h * after) ≡ m * (h * (kept + y)) = ap (λ n. m * (h * n)) is_after in
        let third : m * (c * q) ≡ m * (c * (x + y)) = ap (λ n. m * (c * n)) (sym parts) in
        omega (arith, first, second, third, shared, rest)

pub order_worth : (d w v h : ℕ → ℕ) (m all : ℕ) → ((k : ℕ) → k < all → d k * w k ≡ m * v k) → (t n s q c : ℕ) → t + n ≡ all → worth d w h m t n s ≤ worth d w h m t n (s + q) + m * (c * q) + m * excess_from d v h t n c
unfolding worth excess_from
order_worth d w v h m all each t zero s q c ends = omega arith
order_worth d w v h m all each t (suc n) s q c ends =
    let kept : s - d t + ((s + q - d t) - (s - d t)) ≡ s + q - d t = omega arith in
    let rest = order_worth d w v h m all each (t + 1) n (s - d t) ((s + q - d t) - (s - d t)) (c + h t) (omega arith) in
    let moved : worth d w h m (t + 1) n (s - d t + ((s + q - d t) - (s - d t))) ≡ worth d w h m (t + 1) n (s + q - d t) = ap (worth d w h m (t + 1) n) kept in
    added (v t - d t * c) (omega arith) (excess_from d v h (t + 1) n (c + h t)) (worth d w h m (t + 1) n (s + q - d t)) (worth d w h m (t + 1) n (s - d t)) (rw moved at rest)
  where
    added : (e : ℕ) → v t ≤ e + d t * c → (others more next : ℕ) → next ≤ more + m * ((c + h t) * ((s + q - d t) - (s - d t))) + m * others → (d t - s) * w t + m * (h t * (s - d t)) + next ≤ (d t - (s + q)) * w t + m * (h t * (s + q - d t)) + more + m * (c * q) + m * (e + others)
    added e over others more next rest =
        let step = step_worth (d t) (w t) m (v t) c e (h t) s q (more + m * others) next (each t (omega arith)) over (omega (arith, rest)) in
        omega (arith, step)

-- with no stock all demand is left
pub worth-none : (d w v h : ℕ → ℕ) (m all : ℕ) → ((k : ℕ) → k < all → d k * w k ≡ m * v k) → (t n : ℕ) → t + n ≡ all → worth d w h m t n 0 ≡ m * sum_from v t n
unfolding worth
worth-none d w v h m all each t zero ends = omega arith
worth-none d w v h m all each t (suc n) ends =
    let none : 0 - d t ≡ 0 = omega arith in
    let whole : d t - 0 ≡ d t = omega arith in
    ap (λ k. (d t - 0) * w t + m * (h t * k) + worth d w h m (t + 1) n k) none
    ∙ ap (λ k. k * w t + m * (h t * 0) + worth d w h m (t + 1) n 0) whole
    ∙ added (worth d w h m (t + 1) n 0) (sum_from v (t + 1) n) (sum_from v t (suc n)) (worth-none d w v h m all each (t + 1) n (omega arith)) (sum_from-first v t n)
  where
    added : (rest others all_of : ℕ) → rest ≡ m * others → all_of ≡ v t + others → d t * w t + m * (h t * 0) + rest ≡ m * all_of
    added rest others all_of is sums = let same : m * all_of ≡ m * (v t + others) = ap (λ n. m * n) sums in omega (arith, each t (omega arith), is, same)
