-- The listed demands of a law, and sums over them.
use Rattle.std.proofs.Common.{◌≡◌, ℕ, zero, suc, ◌+◌, ◌<◌, ℤ, pos, ◌+ℤ◌, ◌*ℤ◌, ◌≤ℤ◌, List, [], ◌∷◌, ◌++◌, length, take, slice_index, set, refl, sym, ◌∙◌, ap, arith, add-one, subst}
use Rattle.std.specs.Int.Signed.{≤ℤ_refl}
use Rattle.std.proofs.lemmas.Int.{ints}
use Rattle.std.proofs.lemmas.List.{take_all}
use Rattle.demand_law.specs.Integers as Z
use Rattle.demand_law.specs.Law.{weighted}
use Rattle.demand_law.specs.WeightedSums.{weighted_more}
use Rattle.finite_lemmas.specs.Orders.{product_above}
use Rattle.finite_recursion.specs.Demands.{listed_sum, AreDemandsOf}

-- the list has demands of a law's first weights, and each that has a weight once
pub record AreFirstDemands (weights : List ℕ) (count : ℕ) (listed : List ℕ) : Type 0 where
  pub within : (i : ℕ) → i < length listed → slice_index listed i < count
  pub sums : (f : ℕ → ℤ) → listed_sum weights listed f ≡ weighted (take count weights) f

-- one demand more, at the end
pub listed_sum-last : (weights listed : List ℕ) (d : ℕ) (f : ℕ → ℤ) → listed_sum weights (listed ++ d ∷ []) f ≡ listed_sum weights listed f +ℤ pos (slice_index weights d) *ℤ f d
listed_sum-last weights [] d f = omega (arith, ints)
listed_sum-last weights (e ∷ listed) d f = omega (arith, ints, listed_sum-last weights listed d f)

-- one place more of a list
pub listed_sum_more : (weights listed : List ℕ) (i : ℕ) (f : ℕ → ℤ) → i < length listed → listed_sum weights (take (i + 1) listed) f ≡ listed_sum weights (take i listed) f +ℤ pos (slice_index weights (slice_index listed i)) *ℤ f (slice_index listed i)
listed_sum_more weights listed i f lt = rw add-one (more listed i lt)
  where
    more : (listed : List ℕ) (i : ℕ) → i < length listed → listed_sum weights (take (suc i) listed) f ≡ listed_sum weights (take i listed) f +ℤ pos (slice_index weights (slice_index listed i)) *ℤ f (slice_index listed i)
    more [] i lt = absurd (omega arith)
    more (d ∷ listed) zero lt = omega (arith, ints)
    more (d ∷ listed) (suc i) lt = omega (arith, ints, more listed i (omega arith))

-- a sum over demands to which no value is below 0 is at least 0
pub listed_sum_least : (weights listed : List ℕ) (f : ℕ → ℤ) → ((i : ℕ) → i < length listed → pos 0 ≤ℤ f (slice_index listed i)) → pos 0 ≤ℤ listed_sum weights listed f
listed_sum_least weights [] f h = ≤ℤ_refl (pos 0)
listed_sum_least weights (d ∷ listed) f h = Z.add_le (pos 0) (pos (slice_index weights d) *ℤ f d) (pos 0) (listed_sum weights listed f) (product_above (slice_index weights d) (f d) (h 0 (omega arith))) (listed_sum_least weights listed f (λ i lt. h (suc i) (omega arith)))

-- the first places add no more than all
pub listed_sum_front : (weights listed : List ℕ) (i : ℕ) (f : ℕ → ℤ) → ((i : ℕ) → i < length listed → pos 0 ≤ℤ f (slice_index listed i)) → listed_sum weights (take i listed) f ≤ℤ listed_sum weights listed f
listed_sum_front weights listed zero f h = listed_sum_least weights listed f h
listed_sum_front weights [] (suc i) f h = ≤ℤ_refl (pos 0)
listed_sum_front weights (d ∷ listed) (suc i) f h = Z.add_le (pos (slice_index weights d) *ℤ f d) (pos (slice_index weights d) *ℤ f d) (listed_sum weights (take i listed) f) (listed_sum weights listed f) (≤ℤ_refl (pos (slice_index weights d) *ℤ f d)) (listed_sum_front weights listed i f (λ i lt. h (suc i) (omega arith)))

-- the first places are some demands' first
listed_within : (listed : List ℕ) (d count : ℕ) → ((i : ℕ) → i < length listed → slice_index listed i < count) → d < count → (i : ℕ) → i < length (listed ++ d ∷ []) → slice_index (listed ++ d ∷ []) i < count
listed_within [] d count h lt zero within = omega arith
listed_within [] d count h lt (suc i) within = absurd (omega arith)
listed_within (e ∷ listed) d count h lt zero within = h 0 (omega arith)
listed_within (e ∷ listed) d count h lt (suc i) within = listed_within listed d count (λ j l. h (suc j) (omega arith)) lt i (omega arith)

-- no demand is listed of no weights
pub first_none : (weights : List ℕ) → AreFirstDemands weights 0 []
first_none weights = record { within = λ i lt. absurd (omega arith); sums = λ f. none weights f }
  where
    none : (weights : List ℕ) (f : ℕ → ℤ) → pos 0 ≡ weighted (take 0 weights) f
    none [] f = omega (arith, ints)
    none (w ∷ weights) f = omega (arith, ints)

-- a demand with no weight isn't listed
pub first_skipped : (weights : List ℕ) (count : ℕ) (listed : List ℕ) → count < length weights → slice_index weights count ≡ 0 → AreFirstDemands weights count listed → AreFirstDemands weights (count + 1) listed
first_skipped weights count listed lt zero_weight are = record {
  within = λ i l. omega (arith, are.within i l);
  sums = λ f. are.sums f ∙ sym (weighted_more weights count f lt ∙ ap (λ w. weighted (take count weights) f +ℤ pos w *ℤ f count) zero_weight ∙ nothing (weighted (take count weights) f) (f count));
}
  where
    nothing : (a b : ℤ) → a +ℤ pos 0 *ℤ b ≡ a
    nothing a b = omega (arith, ints)

-- one with a weight is
pub first_more : (weights : List ℕ) (count : ℕ) (listed : List ℕ) → count < length weights → AreFirstDemands weights count listed → AreFirstDemands weights (count + 1) (listed ++ count ∷ [])
first_more weights count listed lt are = record {
  within = listed_within listed count (count + 1) (λ i l. omega (arith, are.within i l)) (omega arith);
  sums = λ f. listed_sum-last weights listed count f ∙ ap (λ z. z +ℤ pos (slice_index weights count) *ℤ f count) (are.sums f) ∙ sym (weighted_more weights count f lt);
}

-- the first of all weights are all
pub first_all : (weights : List ℕ) (count : ℕ) (listed : List ℕ) → count ≡ length weights → AreFirstDemands weights count listed → AreDemandsOf weights listed
first_all weights count listed all are = record {
  within = λ i l. omega (arith, are.within i l);
  sums = λ f. are.sums f ∙ ap (λ ws. weighted ws f) (take_all count weights (omega (arith, all)));
}

-- the sum over the first places is at least 0 too
pub listed_sum_so_far : (weights listed : List ℕ) (i : ℕ) (f : ℕ → ℤ) → ((i : ℕ) → i < length listed → pos 0 ≤ℤ f (slice_index listed i)) → pos 0 ≤ℤ listed_sum weights (take i listed) f
listed_sum_so_far weights listed zero f h = ≤ℤ_refl (pos 0)
listed_sum_so_far weights [] (suc i) f h = ≤ℤ_refl (pos 0)
listed_sum_so_far weights (d ∷ listed) (suc i) f h = Z.add_le (pos 0) (pos (slice_index weights d) *ℤ f d) (pos 0) (listed_sum weights (take i listed) f) (product_above (slice_index weights d) (f d) (h 0 (omega arith))) (listed_sum_so_far weights listed i f (λ j lt. h (suc j) (omega arith)))

-- the first places with one more that was written
pub take_put : (listed : List ℕ) (count d : ℕ) → count < length listed → take (count + 1) (set listed count d) ≡ take count listed ++ d ∷ []
take_put listed count d lt = rw add-one (more listed count lt)
  where
    more : (listed : List ℕ) (count : ℕ) → count < length listed → take (suc count) (set listed count d) ≡ take count listed ++ d ∷ []
    more [] count lt = absurd (omega arith)
    more (e ∷ listed) zero lt = refl
    more (e ∷ listed) (suc count) lt = ap (λ xs. e ∷ xs) (more listed count (omega arith))

-- a demand that was written behind the first places
pub first_put : (weights : List ℕ) (demand count more : ℕ) (before after : List ℕ) → demand < length weights → count < length before → AreFirstDemands weights demand (take count before) → more ≡ count + 1 → after ≡ set before count demand → AreFirstDemands weights (demand + 1) (take more after)
first_put weights demand count more before after lt inside are is put =
    subst (AreFirstDemands weights (demand + 1)) (sym (ap (λ xs. take more xs) put ∙ ap (λ n. take n (set before count demand)) is ∙ take_put before count demand inside)) (first_more weights demand (take count before) lt are)

-- one that was passed over
pub first_kept : (weights : List ℕ) (demand count same : ℕ) (before after : List ℕ) → demand < length weights → slice_index weights demand ≡ 0 → AreFirstDemands weights demand (take count before) → same ≡ count → after ≡ before → AreFirstDemands weights (demand + 1) (take same after)
first_kept weights demand count same before after lt nothing are is kept =
    subst (AreFirstDemands weights (demand + 1)) (sym (ap (λ xs. take same xs) kept ∙ ap (λ n. take n before) is)) (first_skipped weights demand (take count before) lt nothing are)
