-- Cells that are written one after another.
use Rattle.std.proofs.Common.{◌≡◌, ℕ, ◌+◌, ◌<◌, ◌≤◌, ℤ, pos, List, length, set, length-set, refl, sym, ◌∙◌, arith, subst, ◌⊎◌, inl, inr}
use Rattle.std.proofs.lemmas.Bool.{cases_lt}
use Rattle.std.proofs.lemmas.List.{get_or-set_same, get_or-set_other}
use Rattle.serial_recursion.specs.Rows.{value_at, row_at}

-- a cell that was written
pub put_here : (cells : List ℤ) (place : ℕ) (value : ℤ) → place < length cells → value_at (set cells place value) place ≡ value
put_here cells place value lt = get_or-set_same cells place value (pos 0) lt

-- another cell
pub put_other : (cells : List ℤ) (place k : ℕ) (value : ℤ) → (k ≡ place → ⊥) → value_at (set cells place value) k ≡ value_at cells k
put_other cells place k value ne = get_or-set_other cells place k value (pos 0) ne

-- from a cell on so many cells hold what they are to hold, and the others what they held
pub record AreStored (P : ℕ → ℤ → Type 0) (start : ℕ) (old new : List ℤ) (place : ℕ) : Type 0 where
  pub same : length new ≡ length old
  pub done : (k : ℕ) → k < place → P k (row_at new start k)
  pub below : (k : ℕ) → k < start → value_at new k ≡ value_at old k
  pub above : (k : ℕ) → start + place ≤ k → value_at new k ≡ value_at old k

-- none
pub stored_none : (P : ℕ → ℤ → Type 0) (start : ℕ) (old : List ℤ) → AreStored P start old old 0
stored_none P start old = record { same = refl; done = λ k lt. absurd (omega (arith, lt)); below = λ k lt. refl; above = λ k le. refl }

-- one more
pub stored_more : (P : ℕ → ℤ → Type 0) (start : ℕ) (old new : List ℤ) (place : ℕ) (value : ℤ) → AreStored P start old new place → start + place < length old → P place value → AreStored P start old (set new (start + place) value) (place + 1)
stored_more P start old new place value are inside here = record {
  same = length-set new (start + place) value ∙ are.same;
  done = λ k lt. by k lt (cases_lt k place);
  below = λ k lt. put_other new (start + place) k value (λ e. absurd (omega (arith, e, lt))) ∙ are.below k lt;
  above = λ k le. put_other new (start + place) k value (λ e. absurd (omega (arith, e, le))) ∙ are.above k (omega (arith, le));
}
  where
    within : start + place < length new
    within = omega (arith, inside, are.same)

    by : (k : ℕ) → k < place + 1 → (k < place) ⊎ (place ≤ k) → P k (row_at (set new (start + place) value) start k)
    by k lt (inl less) = subst (P k) (sym (put_other new (start + place) (start + k) value (λ e. absurd (omega (arith, less, e))))) (are.done k less)
    by k lt (inr more) =
        let same : place ≡ k = omega (arith, lt, more) in
        subst (λ (j : ℕ). P j (row_at (set new (start + place) value) start j)) same (subst (P place) (sym (put_here new (start + place) value within)) here)

-- of so many cells the first ones hold what they are to hold, and the others what they are made of
pub record AreWritten (P Q : ℕ → ℤ → Type 0) (count size : ℕ) (cells : List ℤ) (place : ℕ) : Type 0 where
  pub same : length cells ≡ size
  pub done : (k : ℕ) → k < place → P k (value_at cells k)
  pub left : (k : ℕ) → place ≤ k → k < count → Q k (value_at cells k)

-- none is written yet
pub written_none : (P Q : ℕ → ℤ → Type 0) (count size : ℕ) (cells : List ℤ) → length cells ≡ size → ((k : ℕ) → k < count → Q k (value_at cells k)) → AreWritten P Q count size cells 0
written_none P Q count size cells same all = record { same = same; done = λ k lt. absurd (omega (arith, lt)); left = λ k le lt. all k lt }

-- one more
pub written_more : (P Q : ℕ → ℤ → Type 0) (count size : ℕ) (cells : List ℤ) (place : ℕ) (value : ℤ) → AreWritten P Q count size cells place → place < size → P place value → AreWritten P Q count size (set cells place value) (place + 1)
written_more P Q count size cells place value are inside here = record {
  same = length-set cells place value ∙ are.same;
  done = λ k lt. by k lt (cases_lt k place);
  left = λ k le lt. subst (Q k) (sym (put_other cells place k value (λ e. absurd (omega (arith, e, le))))) (are.left k (omega (arith, le)) lt);
}
  where
    within : place < length cells
    within = omega (arith, inside, are.same)

    by : (k : ℕ) → k < place + 1 → (k < place) ⊎ (place ≤ k) → P k (value_at (set cells place value) k)
    by k lt (inl less) = subst (P k) (sym (put_other cells place k value (λ e. absurd (omega (arith, less, e))))) (are.done k less)
    by k lt (inr more) =
        let same : place ≡ k = omega (arith, lt, more) in
        subst (λ (j : ℕ). P j (value_at (set cells place value) j)) same (subst (P place) (sym (put_here cells place value within)) here)
