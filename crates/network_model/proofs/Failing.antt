-- The first place at which a test fails, step by step.
use Rattle.std.proofs.Common.{◌≡◌, ◌⊎◌, ℕ, zero, suc, ◌+◌, ◌<◌, ◌≤◌, Bool, true, false, ◌&&◌, Some, None, option_map, inl, inr, refl, ◌∙◌, ap, subst, arith, add-one}
use Rattle.std.proofs.lemmas.Bool.{cases_lt}
use Rattle.std.proofs.Math.Bool.{and-false}
use Rattle.network_model.specs.Nodes.{or_place, first_failing, each_below}

-- one more place that passes
pub none_more : (passes : ℕ → Bool) (k : ℕ) → first_failing passes k ≡ None → passes k ≡ true → first_failing passes (k + 1) ≡ None
none_more passes k none here = rw add-one (ap (λ o. or_place o (passes k) k) none ∙ ap (λ b. or_place None b k) here)

stays : (passes : ℕ → Bool) (k n : ℕ) → (k < n → first_failing passes n ≡ Some k) → first_failing passes k ≡ None → passes k ≡ false → (k < n) ⊎ (n ≤ k) → k < suc n → first_failing passes (suc n) ≡ Some k
stays passes k n earlier none here (inl less) lt = ap (λ o. or_place o (passes n) n) (earlier less)
stays passes k n earlier none here (inr same) lt =
    let e : k ≡ n = omega arith in
    subst (λ (i : ℕ). first_failing passes (suc i) ≡ Some k) e (ap (λ o. or_place o (passes k) k) none ∙ ap (λ b. or_place None b k) here)

-- the first that fails stays the first, however many follow
pub found : (passes : ℕ → Bool) (k n : ℕ) → first_failing passes k ≡ None → passes k ≡ false → k < n → first_failing passes n ≡ Some k
found passes k zero none here lt = absurd (omega arith)
found passes k (suc n) none here lt = stays passes k n (found passes k n none here) none here (cases_lt k n) lt

-- counted from 1
pub found_from_one : (passes : ℕ → Bool) (k n : ℕ) → first_failing passes k ≡ None → passes k ≡ false → k < n → option_map suc (first_failing passes n) ≡ Some (k + 1)
found_from_one passes k n none here lt = ap (option_map suc) (found passes k n none here lt) ∙ ap Some (omega arith)

-- ---- a test of all places
pub below_alike : (p q : ℕ → Bool) (n : ℕ) → ((j : ℕ) → j < n → p j ≡ q j) → each_below p n ≡ each_below q n
below_alike p q zero same = refl
below_alike p q (suc n) same = ap (λ b. b && p n) (below_alike p q n (λ j lt. same j (omega arith))) ∙ ap (λ b. each_below q n && b) (same n (omega arith))

below_last : (p : ℕ → Bool) (k n : ℕ) → (k < n → each_below p n ≡ false) → p k ≡ false → (k < n) ⊎ (n ≤ k) → k < suc n → each_below p (suc n) ≡ false
below_last p k n earlier here (inl less) lt = ap (λ b. b && p n) (earlier less)
below_last p k n earlier here (inr same) lt =
    let e : k ≡ n = omega arith in
    subst (λ (i : ℕ). each_below p (suc i) ≡ false) e (ap (λ b. each_below p k && b) here ∙ and-false (each_below p k))

-- one place fails
pub below_fails : (p : ℕ → Bool) (k n : ℕ) → p k ≡ false → k < n → each_below p n ≡ false
below_fails p k zero here lt = absurd (omega arith)
below_fails p k (suc n) here lt = below_last p k n (below_fails p k n here) here (cases_lt k n) lt
