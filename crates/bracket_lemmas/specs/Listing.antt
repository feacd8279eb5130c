-- Entries of places, each by those of the places below it.
use Rattle.std.proofs.Common.{◌≡◌, ℕ, zero, suc, ◌<◌, ◌≤◌, List, [], ◌∷◌, ◌++◌, length, slice_index, refl, sym, ◌∙◌, ap, subst, arith, ◌⊎◌, inl, inr}
use Rattle.std.proofs.lemmas.Bool.{cases_lt}
use Rattle.average_lemmas.specs.Entries.{length-more, entry_before, entry_last}

-- the entries of the first places
unfoldable pub listed_by : ((ℕ → ℕ) → ℕ → ℕ) → ℕ → List ℕ
listed_by step zero = []
listed_by step (suc k) = listed_by step k ++ step (slice_index (listed_by step k)) k ∷ []

-- a step looks at the entries of the places below alone
abbrev pub LooksBelow : ((ℕ → ℕ) → ℕ → ℕ) → Type 0
LooksBelow step = (a b : ℕ → ℕ) (k : ℕ) → ((j : ℕ) → j < k → a j ≡ b j) → step a k ≡ step b k

pub length-listed : (step : (ℕ → ℕ) → ℕ → ℕ) (n : ℕ) → length (listed_by step n) ≡ n
unfolding listed_by
length-listed step zero = refl
length-listed step (suc k) = length-more (listed_by step k) (step (slice_index (listed_by step k)) k) ∙ ap suc (length-listed step k)

-- one entry more
pub listed_more : (step : (ℕ → ℕ) → ℕ → ℕ) (k : ℕ) → listed_by step (suc k) ≡ listed_by step k ++ step (slice_index (listed_by step k)) k ∷ []
unfolding listed_by
listed_more step k = refl

module _ (step : (ℕ → ℕ) → ℕ → ℕ) (looks : LooksBelow step) where
  -- the entry of a place, by all entries
  pub listed_entry : (n k : ℕ) → k < n → slice_index (listed_by step n) k ≡ step (slice_index (listed_by step n)) k
  unfolding listed_by
  listed_entry zero k lt = absurd (omega (arith, lt))
  listed_entry (suc n) k lt = at (cases_lt k n) (listed_entry n k)
    where
      xs : List ℕ
      xs = listed_by step n

      x : ℕ
      x = step (slice_index xs) n

      same : (p : ℕ) → p ≤ n → step (slice_index (xs ++ x ∷ [])) p ≡ step (slice_index xs) p
      same p le = looks (slice_index (xs ++ x ∷ [])) (slice_index xs) p (λ j below. entry_before xs x j (omega (arith, below, le, length-listed step n)))

      at : (k < n) ⊎ (n ≤ k) → (k < n → slice_index xs k ≡ step (slice_index xs) k) → slice_index (xs ++ x ∷ []) k ≡ step (slice_index (xs ++ x ∷ [])) k
      at (inl less) known = entry_before xs x k (omega (arith, less, length-listed step n)) ∙ known less ∙ sym (same k (omega (arith, less)))
      at (inr from) known =
          let e : n ≡ k = omega (arith, from, lt) in
          subst (λ (p : ℕ). slice_index (xs ++ x ∷ []) p ≡ step (slice_index (xs ++ x ∷ [])) p) e (entry_last xs x n (length-listed step n) ∙ sym (same n (omega arith)))

  -- the entries of fewer places are the first of them
  pub listed_front : (n k j : ℕ) → k ≤ n → j < k → slice_index (listed_by step n) j ≡ slice_index (listed_by step k) j
  unfolding listed_by
  listed_front zero k j le lt = absurd (omega (arith, le, lt))
  listed_front (suc n) k j le lt = at (cases_lt n k) (listed_front n k j)
    where
      at : (n < k) ⊎ (k ≤ n) → (k ≤ n → j < k → slice_index (listed_by step n) j ≡ slice_index (listed_by step k) j) → slice_index (listed_by step (suc n)) j ≡ slice_index (listed_by step k) j
      at (inl all) known = let e : suc n ≡ k = omega (arith, all, le) in ap (λ m. slice_index (listed_by step m) j) e
      at (inr fewer) known = entry_before (listed_by step n) (step (slice_index (listed_by step n)) n) j (omega (arith, fewer, lt, length-listed step n)) ∙ known fewer lt

-- no entries
pub none_listed : (step : (ℕ → ℕ) → ℕ → ℕ) → listed_by step 0 ≡ []
unfolding listed_by
none_listed step = refl
