-- The solver's tables meet their equations, and no other lists do.
use Rattle.std.proofs.Common.{◌≡◌, ℕ, zero, suc, ◌-◌, min, ◌<◌, ◌≤◌, ℤ, if◌then◌else◌, List, [], ◌∷◌, ◌++◌, length, slice_index, refl, sym, ◌∙◌, ap, subst, arith, ◌⊎◌, inl, inr}
use Rattle.std.specs.Prelude.{int_le}
use Rattle.std.proofs.lemmas.Bool.{cases_lt}
use Rattle.std.proofs.lemmas.List.{get_or_append_left, length-append}
use Rattle.std.proofs.Math.Seq.{get_or-append_seam}
use Rattle.decision_model.specs.declared.average.Average.{Average}
use Rattle.value_cert.specs.AverageValues.{Ratio, at_place, limit, gain, loss, lower_entries, upper_entries}
use Rattle.average_lemmas.specs.Agreement.{gain_same}
use Rattle.average_lemmas.specs.Iteration.{below_suc}

-- one more entry
pub length-more : (xs : List ℕ) (x : ℕ) → length (xs ++ x ∷ []) ≡ suc (length xs)
length-more xs x = omega (arith, length-append xs (x ∷ []))

-- the earlier entries stay
pub entry_before : (xs : List ℕ) (x : ℕ) (j : ℕ) → j < length xs → slice_index (xs ++ x ∷ []) j ≡ slice_index xs j
entry_before xs x j lt = get_or_append_left xs (x ∷ []) 0 j lt

-- and the new one stands behind them
pub entry_last : (xs : List ℕ) (x k : ℕ) → length xs ≡ k → slice_index (xs ++ x ∷ []) k ≡ x
entry_last xs x k e = ap (slice_index (xs ++ x ∷ [])) (sym e) ∙ get_or-append_seam xs x [] 0

-- an entry of each place, in front of any others
module _ (item : Average) (g : Ratio) where
  pub length-lower : (n : ℕ) → length (lower_entries item g n) ≡ n
  unfolding lower_entries
  length-lower zero = refl
  length-lower (suc k) = length-more (lower_entries item g k) (min (gain item g (slice_index (lower_entries item g k)) k - loss item g k) (limit item g k)) ∙ ap suc (length-lower k)

  -- the lower entry of a place, by all entries
  pub lower_entry : (n k : ℕ) → k < n → slice_index (lower_entries item g n) k ≡ min (gain item g (slice_index (lower_entries item g n)) k - loss item g k) (limit item g k)
  unfolding lower_entries
  lower_entry zero k lt = absurd (omega (arith, lt))
  lower_entry (suc n) k lt = at (cases_lt k n) (lower_entry n k)
    where
      xs : List ℕ
      xs = lower_entries item g n

      x : ℕ
      x = min (gain item g (slice_index xs) n - loss item g n) (limit item g n)

      same : (p : ℕ) → p ≤ n → gain item g (slice_index (xs ++ x ∷ [])) p ≡ gain item g (slice_index xs) p
      same p le = gain_same item g (slice_index (xs ++ x ∷ [])) (slice_index xs) p (λ j below. entry_before xs x j (omega (arith, below, le, length-lower n)))

      at : (k < n) ⊎ (n ≤ k) → (k < n → slice_index xs k ≡ min (gain item g (slice_index xs) k - loss item g k) (limit item g k))
          → slice_index (xs ++ x ∷ []) k ≡ min (gain item g (slice_index (xs ++ x ∷ [])) k - loss item g k) (limit item g k)
      at (inl less) known = entry_before xs x k (omega (arith, less, length-lower n)) ∙ known less ∙ ap (λ z. min (z - loss item g k) (limit item g k)) (sym (same k (omega (arith, less))))
      at (inr from) known =
          let e : n ≡ k = omega (arith, from, lt) in
          subst (λ (p : ℕ). slice_index (xs ++ x ∷ []) p ≡ min (gain item g (slice_index (xs ++ x ∷ [])) p - loss item g p) (limit item g p)) e
          (entry_last xs x n (length-lower n) ∙ ap (λ z. min (z - loss item g n) (limit item g n)) (sym (same n (omega arith))))

  -- what meets the equations of the lower entries is these
  pub lower_only : (n : ℕ) (a : ℕ → ℕ) → ((k : ℕ) → k < n → a k ≡ min (gain item g a k - loss item g k) (limit item g k)) → (k : ℕ) → k ≤ n → (j : ℕ) → j < k → a j ≡ slice_index (lower_entries item g n) j
  lower_only n a is zero le j lt = absurd (omega (arith, lt))
  lower_only n a is (suc k) le j lt =
      below_suc (λ m. a m ≡ slice_index (lower_entries item g n) m) k (lower_only n a is k (omega (arith, le)))
      (is k le ∙ ap (λ z. min (z - loss item g k) (limit item g k)) (gain_same item g a (slice_index (lower_entries item g n)) k (lower_only n a is k (omega (arith, le)))) ∙ sym (lower_entry n k le)) j lt

  module _ (low : ℤ) where
    pub length-upper : (n : ℕ) → length (upper_entries item g low n) ≡ n
    unfolding upper_entries
    length-upper zero = refl
    length-upper (suc k) = length-more (upper_entries item g low k) (if int_le (at_place item k) low then limit item g k else gain item g (slice_index (upper_entries item g low k)) k - loss item g k) ∙ ap suc (length-upper k)

    -- the upper entry of a place, by all entries
    pub upper_entry : (n k : ℕ) → k < n → slice_index (upper_entries item g low n) k ≡ (if int_le (at_place item k) low then limit item g k else gain item g (slice_index (upper_entries item g low n)) k - loss item g k)
    unfolding upper_entries
    upper_entry zero k lt = absurd (omega (arith, lt))
    upper_entry (suc n) k lt = at (cases_lt k n) (upper_entry n k)
      where
        xs : List ℕ
        xs = upper_entries item g low n

        x : ℕ
        x = if int_le (at_place item n) low then limit item g n else gain item g (slice_index xs) n - loss item g n

        same : (p : ℕ) → p ≤ n → gain item g (slice_index (xs ++ x ∷ [])) p ≡ gain item g (slice_index xs) p
        same p le = gain_same item g (slice_index (xs ++ x ∷ [])) (slice_index xs) p (λ j below. entry_before xs x j (omega (arith, below, le, length-upper n)))

        at : (k < n) ⊎ (n ≤ k) → (k < n → slice_index xs k ≡ (if int_le (at_place item k) low then limit item g k else gain item g (slice_index xs) k - loss item g k))
            → slice_index (xs ++ x ∷ []) k ≡ (if int_le (at_place item k) low then limit item g k else gain item g (slice_index (xs ++ x ∷ [])) k - loss item g k)
        at (inl less) known = entry_before xs x k (omega (arith, less, length-upper n)) ∙ known less ∙ ap (λ z. if int_le (at_place item k) low then limit item g k else z - loss item g k) (sym (same k (omega (arith, less))))
        at (inr from) known =
            let e : n ≡ k = omega (arith, from, lt) in
            subst (λ (p : ℕ). slice_index (xs ++ x ∷ []) p ≡ (if int_le (at_place item p) low then limit item g p else gain item g (slice_index (xs ++ x ∷ [])) p - loss item g p)) e
            (entry_last xs x n (length-upper n) ∙ ap (λ z. if int_le (at_place item n) low then limit item g n else z - loss item g n) (sym (same n (omega arith))))
