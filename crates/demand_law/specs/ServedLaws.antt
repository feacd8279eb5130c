-- The laws of a list that serve places.
use Rattle.std.proofs.Common.{◌≡◌, ℕ, zero, suc, ◌+◌, ◌*◌, ◌^◌, ◌<◌, ◌≤◌, List, [], ◌∷◌, ◌++◌, ◌-◌, length, sum, mul-le-mul_left, slice_index_or, refl, sym, ◌∙◌, ap, subst, arith, All, ◌⊎◌, inl, inr}
use Rattle.std.proofs.lemmas.List.{get_or_past, get_or_default}
use Rattle.std.proofs.lemmas.Bool.{cases_lt}
use Rattle.demand_law.specs.Law.{IsLaw, greatest_of}
use Rattle.demand_law.specs.Sequences.{law_at, Serves, laws_at, totals_of, greatest_in, greatest_sum}
use Rattle.demand_law.specs.SequenceSums.{totals_of-laws_from, greatest_sum_laws_from, laws_from-append, laws_from-last, totals_of-append, greatest_sum-append}
use Rattle.demand_law.specs.LawSums.{totals_of_positive}

-- a place of the list
pub law_at-listed : (laws : List (List ℕ)) (place : ℕ) (d : List ℕ) → place < length laws → law_at laws place ≡ slice_index_or laws place d
law_at-listed laws place d lt = get_or_default laws place (slice_index_or laws 0 []) d lt

-- one law serves every place
pub law_at-one : (law : List ℕ) (place : ℕ) → law_at (law ∷ []) place ≡ law
law_at-one law zero = refl
law_at-one law (suc place) = refl

-- every place has a law of the list
pub law_at_among : (P : List ℕ → Type 0) (laws : List (List ℕ)) (place : ℕ) → 0 < length laws → All P laws → P (law_at laws place)
law_at_among P laws place some all = by_place (cases_lt place (length laws))
  where
    by_place : (place < length laws) ⊎ (length laws ≤ place) → P (law_at laws place)
    by_place (inl lt) = all place (slice_index_or laws 0 []) lt
    by_place (inr le) = subst P (sym (get_or_past laws place (slice_index_or laws 0 []) le)) (all 0 [] some)

-- no law of a list has a demand above greatest_in
pub greatest_in-All : (laws : List (List ℕ)) → All (λ law. greatest_of law ≤ greatest_in laws) laws
greatest_in-All [] k d lt = absurd (omega arith)
greatest_in-All (law ∷ laws) zero d lt = omega arith
greatest_in-All (law ∷ laws) (suc k) d lt = omega (arith, greatest_in-All laws k d (omega arith))

-- what serves some places serves fewer
pub Serves_less : (laws : List (List ℕ)) (from n count : ℕ) → n ≤ count → Serves laws from count → Serves laws from n
Serves_less laws from n count le (inl one) = inl one
Serves_less laws from n count le (inr listed) = inr (omega arith)

-- a list that serves a place isn't empty
pub Serves_some : (laws : List (List ℕ)) (from count : ℕ) → 0 < count → Serves laws from count → 0 < length laws
Serves_some laws from count some (inl one) = omega arith
Serves_some laws from count some (inr listed) = omega arith

-- the greatest demand of a list whose laws have none above m
pub greatest_in_most : (laws : List (List ℕ)) (m : ℕ) → All (λ law. greatest_of law ≤ m) laws → greatest_in laws ≤ m
greatest_in_most [] m most = omega arith
greatest_in_most (law ∷ laws) m most = omega (arith, most 0 [] (omega arith), greatest_in_most laws m (λ k d lt. most (suc k) d (omega arith)))

-- the greatest demands of some places, against the greatest of the list
pub greatest_sum-laws_at : (laws : List (List ℕ)) (from count : ℕ) → Serves laws from count → greatest_sum (laws_at laws from count) ≤ count * greatest_in laws
greatest_sum-laws_at laws from zero serves = omega arith
greatest_sum-laws_at laws from (suc count) serves =
    greatest_sum_laws_from (law_at laws) (greatest_in laws) from (suc count) (λ place. law_at_among (λ law. greatest_of law ≤ greatest_in laws) laws place (Serves_some laws from (suc count) (omega arith) serves) (greatest_in-All laws))

-- laws of one sum of weights, w
pub totals_of-laws_at : (laws : List (List ℕ)) (w from n : ℕ) → 0 < length laws → All (λ law. sum law ≡ w) laws → totals_of (laws_at laws from n) ≡ w ^ n
totals_of-laws_at laws w from n some same = totals_of-laws_from (law_at laws) w (λ place. law_at_among (λ law. sum law ≡ w) laws place some same) from n

-- ---- one place more
-- one law more, at the end
pub laws_at-last : (laws : List (List ℕ)) (from n : ℕ) → laws_at laws from (n + 1) ≡ laws_at laws from n ++ law_at laws (from + n) ∷ []
laws_at-last laws from n = laws_from-last (law_at laws) from n

-- the sum of greatest demands with one place more
pub greatest_sum-laws_at_last : (laws : List (List ℕ)) (from n : ℕ) → greatest_sum (laws_at laws from (n + 1)) ≡ greatest_sum (laws_at laws from n) + greatest_of (law_at laws (from + n))
greatest_sum-laws_at_last laws from n = ap greatest_sum (laws_at-last laws from n) ∙ greatest_sum-append (laws_at laws from n) (law_at laws (from + n) ∷ []) ∙ omega arith

-- the product of sums of weights with one place more
pub totals_of-laws_at_last : (laws : List (List ℕ)) (from n : ℕ) → totals_of (laws_at laws from (n + 1)) ≡ totals_of (laws_at laws from n) * sum (law_at laws (from + n))
totals_of-laws_at_last laws from n = ap totals_of (laws_at-last laws from n) ∙ totals_of-append (laws_at laws from n) (law_at laws (from + n) ∷ []) ∙ omega arith

-- ---- fewer places
-- the first places, and those behind them
pub laws_at-split : (laws : List (List ℕ)) (from n count : ℕ) → n ≤ count → laws_at laws from count ≡ laws_at laws from n ++ laws_at laws (from + n) (count - n)
laws_at-split laws from n count le = ap (laws_at laws from) whole ∙ laws_from-append (law_at laws) from n (count - n)
  where
    whole : count ≡ n + (count - n)
    whole = omega arith

-- fewer places have no greater sum of greatest demands
pub greatest_sum-laws_at_le : (laws : List (List ℕ)) (from n count : ℕ) → n ≤ count → greatest_sum (laws_at laws from n) ≤ greatest_sum (laws_at laws from count)
greatest_sum-laws_at_le laws from n count le =
    omega (arith, ap greatest_sum (laws_at-split laws from n count le), greatest_sum-append (laws_at laws from n) (laws_at laws (from + n) (count - n)))

-- fewer places have no greater product of sums of weights
pub totals_of-laws_at_le : (laws : List (List ℕ)) (from n count : ℕ) → n ≤ count → All IsLaw (laws_at laws from count) → totals_of (laws_at laws from n) ≤ totals_of (laws_at laws from count)
totals_of-laws_at_le laws from n count le all =
    let front = laws_at laws from n in
    let back = laws_at laws (from + n) (count - n) in
    let split = laws_at-split laws from n count le in
    let P : List (List ℕ) → Type 0 = λ ls. All IsLaw ls in
    let some = totals_of_positive back (All-back front back (subst P split all)) in
    omega (arith, ap totals_of split, totals_of-append front back, mul-le-mul_left (totals_of front) some)
  where
    All-back : (front back : List (List ℕ)) → All IsLaw (front ++ back) → All IsLaw back
    All-back [] back h = h
    All-back (law ∷ front) back h = All-back front back (λ k d lt. h (suc k) d (omega arith))
