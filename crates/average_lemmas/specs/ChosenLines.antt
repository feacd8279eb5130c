-- The lines of all places at an average cost, each by the choice of the lesser value.
use Rattle.std.proofs.Common.{◌≡◌, ℕ, zero, suc, ◌+◌, ◌*◌, ◌^◌, ◌<◌, ◌≤◌, true, false, if◌then◌else◌, nat_le, [], ◌∷◌, ◌++◌, length, slice_index, sum, refl, sym, ◌∙◌, ap, subst, arith, ◌⊎◌, inl, inr}
use Rattle.std.proofs.lemmas.Bool.{cases_lt}
use Rattle.std.proofs.lemmas.Bool.Decides.{nat_tests}
use Rattle.demand_law.specs.CountedSums.{counted-ext}
use Rattle.decision_model.specs.declared.average.Average.{Average}
use Rattle.value_cert.specs.AverageValues.{Ratio, moving, at_place, stock_sum}
use Rattle.average_lemmas.specs.CostLines.{limit_constant, keep_constant, keep_slope, IsLines, AreLeastLines, takes_limit, chosen_lines}
use Rattle.average_lemmas.specs.Entries.{length-more, entry_before, entry_last}
use Rattle.average_lemmas.specs.Iteration.{carried_same}

module _ (item : Average) where
  -- a line rests on the places below it alone
  pub keep_constant-same : (a b : ℕ → ℕ) (k : ℕ) → ((j : ℕ) → j < k → a j ≡ b j) → keep_constant item a k ≡ keep_constant item b k
  keep_constant-same a b k h =
      ap (λ z. stock_sum item (at_place item k) * sum (moving item.law) ^ k + z)
      (counted-ext (moving item.law) _ _ (λ d lt. carried_same (sum (moving item.law)) (item.setup * sum item.law ^ item.lead) a b k h d))

  pub keep_slope-same : (a b : ℕ → ℕ) (k : ℕ) → ((j : ℕ) → j < k → a j ≡ b j) → keep_slope item a k ≡ keep_slope item b k
  keep_slope-same a b k h =
      ap (λ z. sum item.law ^ suc item.lead * sum (moving item.law) ^ k + z)
      (counted-ext (moving item.law) _ _ (λ d lt. carried_same (sum (moving item.law)) 0 a b k h d))

  module _ (g : Ratio) where
    -- and so does its choice
    pub takes_limit-same : (a a' b b' : ℕ → ℕ) (k : ℕ) → ((j : ℕ) → j < k → a j ≡ a' j) → ((j : ℕ) → j < k → b j ≡ b' j) → takes_limit item g a b k ≡ takes_limit item g a' b' k
    takes_limit-same a a' b b' k h h' =
        ap (λ z. nat_le (limit_constant item k * g.den + z * g.num) (keep_constant item a k * g.den)) (keep_slope-same b b' k h')
        ∙ ap (λ z. nat_le (limit_constant item k * g.den + keep_slope item b' k * g.num) (z * g.den)) (keep_constant-same a a' k h)

    -- a line of each place
    pub length-chosen : (n : ℕ) → (length (chosen_lines item g n).constants ≡ n) × (length (chosen_lines item g n).slopes ≡ n)
    unfolding chosen_lines
    length-chosen zero = (refl, refl)
    length-chosen (suc n) =
        let before = length-chosen n in
        (length-more (chosen_lines item g n).constants _ ∙ ap suc before.0, length-more (chosen_lines item g n).slopes _ ∙ ap suc before.1)

    -- each line is its choice's
    pub are_chosen : (n : ℕ) → IsLines item n (takes_limit item g (slice_index (chosen_lines item g n).constants) (slice_index (chosen_lines item g n).slopes)) (slice_index (chosen_lines item g n).constants) (slice_index (chosen_lines item g n).slopes)
    unfolding chosen_lines
    are_chosen zero = record { constant_is = λ k lt. absurd (omega (arith, lt)); slope_is = λ k lt. absurd (omega (arith, lt)) }
    are_chosen (suc n) = more (are_chosen n)
      where
        a : ℕ → ℕ
        a = slice_index (chosen_lines item g n).constants

        b : ℕ → ℕ
        b = slice_index (chosen_lines item g n).slopes

        x : ℕ
        x = if takes_limit item g a b n then limit_constant item n else keep_constant item a n

        y : ℕ
        y = if takes_limit item g a b n then 0 else keep_slope item b n

        a' : ℕ → ℕ
        a' = slice_index ((chosen_lines item g n).constants ++ x ∷ [])

        b' : ℕ → ℕ
        b' = slice_index ((chosen_lines item g n).slopes ++ y ∷ [])

        earlier : (j : ℕ) → j < n → (a' j ≡ a j) × (b' j ≡ b j)
        earlier j lt = (entry_before (chosen_lines item g n).constants x j (omega (arith, lt, (length-chosen n).0)), entry_before (chosen_lines item g n).slopes y j (omega (arith, lt, (length-chosen n).1)))

        same_choice : (k : ℕ) → k ≤ n → takes_limit item g a b k ≡ takes_limit item g a' b' k
        same_choice k le = takes_limit-same a a' b b' k (λ j lt. sym (earlier j (omega (arith, lt, le))).0) (λ j lt. sym (earlier j (omega (arith, lt, le))).1)

        constant_by : (k : ℕ) → k ≤ n → (if takes_limit item g a b k then limit_constant item k else keep_constant item a k) ≡ (if takes_limit item g a' b' k then limit_constant item k else keep_constant item a' k)
        constant_by k le =
            ap (λ t. if t then limit_constant item k else keep_constant item a k) (same_choice k le)
            ∙ ap (λ z. if takes_limit item g a' b' k then limit_constant item k else z) (keep_constant-same a a' k (λ j lt. sym (earlier j (omega (arith, lt, le))).0))

        slope_by : (k : ℕ) → k ≤ n → (if takes_limit item g a b k then 0 else keep_slope item b k) ≡ (if takes_limit item g a' b' k then 0 else keep_slope item b' k)
        slope_by k le =
            ap (λ t. if t then 0 else keep_slope item b k) (same_choice k le)
            ∙ ap (λ z. if takes_limit item g a' b' k then 0 else z) (keep_slope-same b b' k (λ j lt. sym (earlier j (omega (arith, lt, le))).1))

        more : IsLines item n (takes_limit item g a b) a b → IsLines item (suc n) (takes_limit item g a' b') a' b'
        more lines = record { constant_is = λ k lt. constant_at k lt (cases_lt k n); slope_is = λ k lt. slope_at k lt (cases_lt k n) }
          where
            constant_at : (k : ℕ) → k < suc n → (k < n) ⊎ (n ≤ k) → a' k ≡ (if takes_limit item g a' b' k then limit_constant item k else keep_constant item a' k)
            constant_at k lt (inl less) = (earlier k less).0 ∙ lines.constant_is k less ∙ constant_by k (omega (arith, less))
            constant_at k lt (inr from) =
                let e : n ≡ k = omega (arith, from, lt) in
                subst (λ (p : ℕ). a' p ≡ (if takes_limit item g a' b' p then limit_constant item p else keep_constant item a' p)) e
                (entry_last (chosen_lines item g n).constants x n (length-chosen n).0 ∙ constant_by n (omega arith))

            slope_at : (k : ℕ) → k < suc n → (k < n) ⊎ (n ≤ k) → b' k ≡ (if takes_limit item g a' b' k then 0 else keep_slope item b' k)
            slope_at k lt (inl less) = (earlier k less).1 ∙ lines.slope_is k less ∙ slope_by k (omega (arith, less))
            slope_at k lt (inr from) =
                let e : n ≡ k = omega (arith, from, lt) in
                subst (λ (p : ℕ). b' p ≡ (if takes_limit item g a' b' p then 0 else keep_slope item b' p)) e
                (entry_last (chosen_lines item g n).slopes y n (length-chosen n).1 ∙ slope_by n (omega arith))

-- lines by their own choices are the least ones
pub chosen_are_least : (item : Average) (g : Ratio) (n : ℕ) (a b : ℕ → ℕ) → IsLines item n (takes_limit item g a b) a b → AreLeastLines item g n (takes_limit item g a b) a b
chosen_are_least item g n a b lines = record { lines = lines; keep = λ k lt e. not_at_least _ _ e; limit = λ k lt e. at_least _ _ e }
  where
    at_least : (x y : ℕ) → nat_le x y ≡ true → x ≤ y
    at_least x y h = grind (arith, nat_tests)

    not_at_least : (x y : ℕ) → nat_le x y ≡ false → y ≤ x
    not_at_least x y h = grind (arith, nat_tests)
