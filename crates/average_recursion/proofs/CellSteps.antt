-- Cells of entries, place by place.
use Rattle.std.proofs.Common.{◌≡◌, ℕ, suc, ◌+◌, ◌-◌, ◌*◌, ◌/◌, ◌^◌, ◌<◌, ◌≤◌, ℤ, pos, List, [], ◌∷◌, ◌++◌, length, set, slice_index, sum, sym, ◌∙◌, ap, subst, arith, ◌⊎◌, inl, inr, length-append, mul-le-mul_left}
use Rattle.std.specs.Prelude.{unsigned_abs}
use Rattle.std.proofs.lemmas.Bool.{cases_lt}
use Rattle.std.proofs.lemmas.List.{get_or-set_same, get_or-set_other}
use Rattle.std.proofs.Math.ListN.{get_or-append}
use Rattle.std.proofs.Math.Nat.{mul-div_cancel, div-le_self}
use Rattle.std.proofs.Math.Seq.{get_or-append_seam}
use Rattle.decision_model.specs.declared.average.Average.{Average}
use Rattle.decision_model.specs.Average.{IsValidAverage, average_positions}
use Rattle.value_cert.specs.AverageValues.{Ratio, moving}
use Rattle.average_lemmas.specs.Certified.{moving_some}
use Rattle.average_recursion.specs.Entries.{entry_at, AreEntries, AreSmallEntries, entry_most}
use Rattle.average_recursion.proofs.Numbers.{power_next}

-- one place more, where all places so far hold what they are to hold
one_more : (P : ℕ → ℕ → Type 0) (cells : List ℤ) (place : ℕ) (value : ℤ) → place < length cells → P place (unsigned_abs value) → ((k : ℕ) → k < place → P k (entry_at cells k)) → (k : ℕ) → k < place + 1 → P k (entry_at (set cells place value) k)
one_more P cells place value inside here before k lt = by (cases_lt k place)
  where
    by : (k < place) ⊎ (place ≤ k) → P k (entry_at (set cells place value) k)
    by (inl less) = subst (λ (z : ℤ). P k (unsigned_abs z)) (sym (get_or-set_other cells place k value (pos 0) (λ e. absurd (omega (arith, less, e))))) (before k less)
    by (inr more) =
        let same : place ≡ k = omega (arith, lt, more) in
        subst (λ (j : ℕ). P j (entry_at (set cells place value) j)) same (subst (λ (z : ℤ). P place (unsigned_abs z)) (sym (get_or-set_same cells place value (pos 0) inside)) here)

-- what a cell keeps of an entry, by the power of its place
module _ (item : Average) (valid : IsValidAverage item) (count : ℕ) (entry power moved : ℕ) (is_power : power ≡ sum (moving item.law) ^ (average_positions item - suc count)) (is_moved : moved ≡ sum (moving item.law)) where
  factor_is : suc count < average_positions item → power / moved ≡ sum (moving item.law) ^ (average_positions item - suc (suc count))
  factor_is lt =
      (λ i. is_power i / is_moved i)
      ∙ ap (λ z. z / sum (moving item.law)) (power_next item valid count lt)
      ∙ mul-div_cancel (sum (moving item.law) ^ (average_positions item - suc (suc count))) {n = sum (moving item.law)} (omega (arith, moving_some item.law valid.regular.has_demand))

  -- it is the entry over the denominator of the place before the last
  pub kept_is : suc count < average_positions item → entry * (power / moved) ≡ entry * sum (moving item.law) ^ (average_positions item - suc (suc count))
  kept_is lt = ap (λ z. entry * z) (factor_is lt)

  pub kept_small : (g : Ratio) → entry * power ≤ entry_most item g count → suc count < average_positions item → entry * (power / moved) * sum (moving item.law) ≤ entry_most item g count
  kept_small g le lt = omega (arith, le, kept_is lt, ap (λ z. z * sum (moving item.law)) (kept_is lt), ap (λ z. entry * z) is_power, ap (λ z. entry * z) (power_next item valid count lt))

-- it fits
pub kept_fits : (entry power moved most : ℕ) → entry * power ≤ most → entry * (power / moved) ≤ most
kept_fits entry power moved most le = omega (arith, le, mul-le-mul_left entry (div-le_self power moved))

-- ---- a table with one place more
module _ (item : Average) (count more : ℕ) (cells after : List ℤ) (value : ℤ) (inside : count < length cells) (is_after : after ≡ set cells count value) (is_more : more ≡ count + 1) where
  pub small_more : (g : Ratio) → AreSmallEntries item g count (entry_at cells) → (suc count < average_positions item → unsigned_abs value * sum (moving item.law) ≤ entry_most item g count) → AreSmallEntries item g more (entry_at after)
  small_more g small here j lt within =
      subst (λ xs. entry_at xs j * sum (moving item.law) ≤ entry_most item g j) (sym is_after)
      (one_more (λ k b. suc k < average_positions item → b * sum (moving item.law) ≤ entry_most item g k) cells count value inside here (λ k less. small k less) j (omega (arith, lt, is_more)) within)

  pub entries_more : (entries : List ℕ) (entry : ℕ) → count ≡ length entries → AreEntries item count (entry_at cells) (slice_index entries)
      → (suc count < average_positions item → unsigned_abs value ≡ entry * sum (moving item.law) ^ (average_positions item - suc (suc count))) → AreEntries item more (entry_at after) (slice_index (entries ++ entry ∷ []))
  entries_more entries entry many are here j lt within =
      subst (λ xs. entry_at xs j ≡ slice_index (entries ++ entry ∷ []) j * sum (moving item.law) ^ (average_positions item - suc (suc j))) (sym is_after)
      (one_more (λ k b. suc k < average_positions item → b ≡ slice_index (entries ++ entry ∷ []) k * sum (moving item.law) ^ (average_positions item - suc (suc k))) cells count value inside
      (λ w. here w ∙ ap (λ z. z * sum (moving item.law) ^ (average_positions item - suc (suc count))) (sym last))
      (λ k less w. are k less w ∙ ap (λ z. z * sum (moving item.law) ^ (average_positions item - suc (suc k))) (sym (get_or-append entries (entry ∷ []) 0 k (omega (arith, less, many)))))
      j (omega (arith, lt, is_more)) within)
    where
      last : slice_index (entries ++ entry ∷ []) count ≡ entry
      last = ap (slice_index (entries ++ entry ∷ [])) many ∙ get_or-append_seam entries entry [] 0

  pub many_more : (entries : List ℕ) (entry : ℕ) → count ≡ length entries → more ≡ length (entries ++ entry ∷ [])
  many_more entries entry many = omega (arith, is_more, many, length-append entries (entry ∷ []))
