-- The first of some numbers that passes a test.
use Rattle.std.proofs.Common.{◌≡◌, ℕ, zero, suc, ◌+◌, ◌<◌, Bool, true, false, cond, Some, None, refl, sym, ◌∙◌, ap, subst, arith, add-zero}
use Rattle.std.specs.List.{find, range_with_len}

-- no number does
pub find-none : (p : ℕ → Bool) (a n : ℕ) → ((j : ℕ) → j < n → p (a + j) ≡ false) → find p (range_with_len a n) ≡ None
find-none p a zero fails = refl
find-none p a (suc n) fails =
    let first : p a ≡ false = subst (λ (x : ℕ). p x ≡ false) (add-zero a) (fails 0 (omega arith)) in
    ap (λ b. cond b (Some a) (find p (range_with_len (a + 1) n))) first
    ∙ find-none p (a + 1) n (λ j lt. subst (λ (x : ℕ). p x ≡ false) (shift j) (fails (suc j) (omega arith)))
  where
    shift : (j : ℕ) → a + suc j ≡ a + 1 + j
    shift j = omega arith

-- a number does, and none before it
pub find-first : (p : ℕ → Bool) (a k n : ℕ) → k < n → ((j : ℕ) → j < k → p (a + j) ≡ false) → p (a + k) ≡ true → find p (range_with_len a n) ≡ Some (a + k)
find-first p a k zero lt fails passes = absurd (omega arith)
find-first p a zero (suc n) lt fails passes =
    let first : p a ≡ true = subst (λ (x : ℕ). p x ≡ true) (add-zero a) passes in
    ap (λ b. cond b (Some a) (find p (range_with_len (a + 1) n))) first ∙ ap Some (sym (add-zero a))
find-first p a (suc k) (suc n) lt fails passes =
    let first : p a ≡ false = subst (λ (x : ℕ). p x ≡ false) (add-zero a) (fails 0 (omega arith)) in
    ap (λ b. cond b (Some a) (find p (range_with_len (a + 1) n))) first
    ∙ find-first p (a + 1) k n (omega arith) (λ j less. subst (λ (x : ℕ). p x ≡ false) (shift j) (fails (suc j) (omega arith))) (subst (λ (x : ℕ). p x ≡ true) (shift k) passes)
    ∙ ap Some (sym (shift k))
  where
    shift : (j : ℕ) → a + suc j ≡ a + 1 + j
    shift j = omega arith
