-- Rows of cells, place by place.
use Rattle.std.proofs.Common.{◌≡◌, ℕ, ◌+◌, ◌*◌, ◌^◌, ◌<◌, ◌≤◌, ℤ, pos, ◌+ℤ◌, ◌-ℤ◌, ◌*ℤ◌, ◌≤ℤ◌, List, length, set, sym, ◌∙◌, ap, arith, subst, ◌⊎◌, inl, inr, to_z, of_z, w64}
use Rattle.std.specs.Prelude.{unsigned_abs}
use Rattle.std.proofs.lemmas.Bool.{cases_lt}
use Rattle.std.proofs.lemmas.Int.{ints}
use Rattle.std.proofs.lemmas.List.{get_or-set_same, get_or-set_other}
use Rattle.decision_model.specs.declared.finite.Finite.{Finite}
use Rattle.decision_model.specs.DemandLaws.{common_total}
use Rattle.decision_model.specs.Finite.{IsReadableFinite, IsValidFinite, finite_low, finite_positions}
use Rattle.decision_model.specs.FiniteProblem.{end_cost}
use Rattle.decision_model.specs.FiniteSound.{low_zero}
use Rattle.demand_law.specs.Integers.{le_trans}
use Rattle.value_cert.specs.FiniteValues.{end_value}
use Rattle.finite_recursion.specs.Rows.{value_at}
use Rattle.finite_recursion.specs.ValueSizes.{end_small}
use Rattle.finite_recursion.proofs.Bounds.{most_small, place_last}
use Rattle.finite_recursion.proofs.Casts.{near}

-- the low end of a period's grid is at most the cap
pub low_cap : (finite : Finite) → IsReadableFinite finite → (t : ℕ) → finite_low finite t ≤ℤ finite.cap
low_cap finite readable t = le_trans (finite_low finite t) (pos 0) finite.cap (low_zero finite t) readable.cap.least

-- ---- cells that are written
-- a cell that was written
pub put_here : (cells : List ℤ) (place : ℕ) (value : ℤ) → place < length cells → value_at (set cells place value) place ≡ value
put_here cells place value lt = get_or-set_same cells place value (pos 0) lt

-- another cell
pub put_other : (cells : List ℤ) (place k : ℕ) (value : ℤ) → (k ≡ place → ⊥) → value_at (set cells place value) k ≡ value_at cells k
put_other cells place k value ne = get_or-set_other cells place k value (pos 0) ne

-- one place more, where all places so far hold what they are to hold
pub one_more : (P : ℕ → ℤ → Type 0) (cells : List ℤ) (place : ℕ) (value : ℤ) → place < length cells → P place value → ((k : ℕ) → k < place → P k (value_at cells k)) → (k : ℕ) → k < place + 1 → P k (value_at (set cells place value) k)
one_more P cells place value inside here before k lt = by (cases_lt k place)
  where
    by : (k < place) ⊎ (place ≤ k) → P k (value_at (set cells place value) k)
    by (inl less) = subst (P k) (sym (put_other cells place k value (λ e. absurd (omega (arith, less, e))))) (before k less)
    by (inr more) =
        let same : place ≡ k = omega (arith, lt, more) in
        subst (λ (j : ℕ). P j (value_at (set cells place value) j)) same (subst (P place) (sym (put_here cells place value inside)) here)

-- ---- the end
-- the value of a place after the last period
pub end_told : (finite : Finite) (weight cost place : ℕ) (value : ℤ) → weight ≡ common_total finite.laws ^ finite.lead → pos cost ≡ end_cost finite (finite.cap -ℤ pos place) → value ≡ pos (weight * cost) → value ≡ end_value finite (finite.cap -ℤ pos place)
unfolding end_value
end_told finite weight cost place value is_weight is_cost is =
    is ∙ product weight cost ∙ ap (λ k. pos k *ℤ pos cost) is_weight ∙ ap (λ z. pos (common_total finite.laws ^ finite.lead) *ℤ z) is_cost
  where
    product : (a b : ℕ) → pos (a * b) ≡ pos a *ℤ pos b
    product a b = omega (arith, ints)

-- it fits
pub end_fits : (finite : Finite) → IsValidFinite finite → (weight cost place : ℕ) → weight ≡ common_total finite.laws ^ finite.lead → pos cost ≡ end_cost finite (finite.cap -ℤ pos place) → place < finite_positions finite → weight * cost ≤ 2 ^ 120
end_fits finite valid weight cost place is_weight is_cost lt =
    let told : pos (weight * cost) ≡ end_value finite (finite.cap -ℤ pos place) = end_told finite weight cost place (pos (weight * cost)) is_weight is_cost (omega (arith, ints)) in
    let small = end_small finite valid.regular.readable (finite.cap -ℤ pos place) (place_last finite valid place lt) (omega (arith, ints)) in
    omega (arith, ints, told, small.most, most_small finite valid 0 (omega arith))

-- ---- widths
-- how wide a row is, from stored numbers
pub width_told : (cap low : ℤ) → unsigned_abs cap ≤ 1000000 → unsigned_abs low ≤ 2040000 → to_z w64 (of_z w64 (to_z w64 (of_z w64 (to_z w64 (of_z w64 cap) -ℤ to_z w64 (of_z w64 low))) +ℤ pos 1)) ≡ cap -ℤ low +ℤ pos 1
width_told cap low small_cap small_low =
    ap (λ z. to_z w64 (of_z w64 (to_z w64 (of_z w64 (z -ℤ to_z w64 (of_z w64 low))) +ℤ pos 1))) (near cap (omega arith))
    ∙ ap (λ z. to_z w64 (of_z w64 (to_z w64 (of_z w64 (cap -ℤ z)) +ℤ pos 1))) (near low (omega arith))
    ∙ ap (λ z. to_z w64 (of_z w64 (z +ℤ pos 1))) (near (cap -ℤ low) (omega (arith, ints)))
    ∙ near (cap -ℤ low +ℤ pos 1) (omega (arith, ints))
