-- The law of a sum: what depends on a sum of demands alone goes over to the sum's own law.
use Rattle.std.proofs.Common.{◌≡◌, ℕ, zero, suc, ◌+◌, ◌-◌, ◌^◌, ◌<◌, ◌≤◌, ℤ, pos, ◌+ℤ◌, ◌*ℤ◌, ◌≤ℤ◌, unsigned_abs, List, [], ◌∷◌, ◌++◌, length, sum, slice_index, take, Bool, true, false, if◌then◌else◌, ◌==◌, refl, sym, ◌∙◌, ap, subst, arith, zero-add, suc-add, ne_eqb, All, mul-le-mul_left, replicate, ◌⊎◌, inl, inr}
use Rattle.std.proofs.lemmas.Int.{ints}
use Rattle.std.proofs.lemmas.List.{get_or_past, get_or-replicate}
use Rattle.std.proofs.lemmas.Grind.{same_number_lists}
use Rattle.std.proofs.lemmas.Bool.{cases_lt}
use Rattle.std.proofs.lemmas.List.Sums.{sum_by-append, get_or-le-sum_by}
use Rattle.std.proofs.lemmas.List.FromFn.{get_or-map-range_with_len, length-map-range_with_len}
use Rattle.std.specs.Int.Signed.{≤ℤ_refl}
use lib.Dec.{eqb-zero-suc, eqb-suc-zero, eqb-suc-suc}
use Rattle.demand_law.specs.Law.{weighted, IsLaw, greatest_of}
use Rattle.demand_law.specs.Sequences.{over, laws_from, totals_of, one_at, weight_of_sum, greatest_sum, IsSumOf, law_of_sum}
use Rattle.demand_law.specs.Integers as Z
use Rattle.demand_law.specs.Integers.{weight_mono}
use Rattle.demand_law.specs.WeightedSums.{sum-cons, weighted-ext, weighted-zero, weighted-const, weighted-swap, weighted_term}
use Rattle.demand_law.specs.SequenceSums.{sum_sequence, over-ext, over-zero, over-scale_right, over-const, over-weighted, over-append, over_nonnegative, over_from-front, greatest_sum-append}

-- ---- tests for equality, as numbers
-- 1 at equal numbers
pub one_at-same : (e : ℕ) → one_at e e ≡ pos 1
one_at-same zero = refl
one_at-same (suc e) = ap (λ b. if b then pos 1 else pos 0) (eqb-suc-suc e e) ∙ one_at-same e

-- 0 at others
pub one_at-other : (s e : ℕ) → (s ≡ e → ⊥) → one_at s e ≡ pos 0
one_at-other s e ne = ap (λ b. if b then pos 1 else pos 0) (ne_eqb s e ne)

-- never below 0
pub one_at_nonnegative : (s e : ℕ) → pos 0 ≤ℤ one_at s e
one_at_nonnegative s e = go (s == e)
  where
    go : (b : Bool) → pos 0 ≤ℤ (if b then pos 1 else pos 0)
    go true = omega (arith, ints)
    go false = omega (arith, ints)

-- never above 1
pub one_at_most : (s e : ℕ) → one_at s e ≤ℤ pos 1
one_at_most s e = go (s == e)
  where
    go : (b : Bool) → (if b then pos 1 else pos 0) ≤ℤ pos 1
    go true = omega (arith, ints)
    go false = omega (arith, ints)

-- ---- one law
-- the value at one demand, picked out of a sum over demands
pub weighted_at : (ws : List ℕ) (e : ℕ) (h : ℕ → ℤ) → weighted ws (λ d. one_at d e *ℤ h d) ≡ pos (slice_index ws e) *ℤ h e
weighted_at [] e h = sym (Z.zero_mul (h e))
weighted_at (w ∷ ws) zero h =
    let others : weighted ws (λ d. one_at (suc d) 0 *ℤ h (suc d)) ≡ pos 0 = weighted-ext ws _ _ (λ d. ap (λ b. (if b then pos 1 else pos 0) *ℤ h (suc d)) (eqb-suc-zero d) ∙ Z.zero_mul (h (suc d))) ∙ weighted-zero ws in
    ap (λ z. pos w *ℤ (pos 1 *ℤ h 0) +ℤ z) others ∙ last (pos w) (h 0)
  where
    last : (a b : ℤ) → a *ℤ (pos 1 *ℤ b) +ℤ pos 0 ≡ a *ℤ b
    last a b = ap (λ z. a *ℤ z +ℤ pos 0) (Z.one_mul b) ∙ Z.add_zero (a *ℤ b)
weighted_at (w ∷ ws) (suc e) h =
    let first : pos w *ℤ (one_at 0 (suc e) *ℤ h 0) ≡ pos 0 = ap (λ b. pos w *ℤ ((if b then pos 1 else pos 0) *ℤ h 0)) (eqb-zero-suc e) ∙ ap (λ z. pos w *ℤ z) (Z.zero_mul (h 0)) ∙ Z.mul_zero (pos w) in
    ap (λ z. z +ℤ weighted ws (λ d. one_at (suc d) (suc e) *ℤ h (suc d))) first
    ∙ Z.zero_add (weighted ws (λ d. one_at (suc d) (suc e) *ℤ h (suc d)))
    ∙ weighted-ext ws _ _ (λ d. ap (λ b. (if b then pos 1 else pos 0) *ℤ h (suc d)) (eqb-suc-suc d e))
    ∙ weighted_at ws e (λ d. h (suc d))

-- the weight of one demand
pub weighted-one_at : (ws : List ℕ) (e : ℕ) → weighted ws (λ d. one_at d e) ≡ pos (slice_index ws e)
weighted-one_at ws e = weighted-ext ws _ _ (λ d. sym (Z.mul_one (one_at d e))) ∙ weighted_at ws e (λ d. pos 1) ∙ Z.mul_one (pos (slice_index ws e))

-- ---- regrouping
one_at-swap : (s e : ℕ) → one_at s e ≡ one_at e s
one_at-swap zero zero = refl
one_at-swap zero (suc e) = ap (λ b. if b then pos 1 else pos 0) (eqb-zero-suc e ∙ sym (eqb-suc-zero e))
one_at-swap (suc s) zero = ap (λ b. if b then pos 1 else pos 0) (eqb-suc-zero s ∙ sym (eqb-zero-suc s))
one_at-swap (suc s) (suc e) =
    ap (λ b. if b then pos 1 else pos 0) (eqb-suc-suc s e) ∙ one_at-swap s e ∙ ap (λ b. if b then pos 1 else pos 0) (sym (eqb-suc-suc e s))

-- a value as a sum over the numbers below n
value_among : (n s : ℕ) (h : ℕ → ℤ) → s < n → h s ≡ weighted (replicate n 1) (λ e. one_at s e *ℤ h e)
value_among n s h lt =
    sym (Z.one_mul (h s))
    ∙ ap (λ k. pos k *ℤ h s) (sym (get_or-replicate n s 1 0 lt))
    ∙ sym (weighted_at (replicate n 1) s h)
    ∙ weighted-ext (replicate n 1) _ _ (λ e. ap (λ z. z *ℤ h e) (one_at-swap e s))

weighted-replicate : (ws : List ℕ) (h : ℕ → ℤ) → weighted (replicate (length ws) 1) (λ e. pos (slice_index ws e) *ℤ h e) ≡ weighted ws h
weighted-replicate [] h = refl
weighted-replicate (w ∷ ws) h =
    ap (λ z. z +ℤ weighted (replicate (length ws) 1) (λ e. pos (slice_index ws e) *ℤ h (suc e))) (Z.one_mul (pos w *ℤ h 0))
    ∙ ap (λ z. pos w *ℤ h 0 +ℤ z) (weighted-replicate ws (λ e. h (suc e)))

-- a sum over sequences of what depends on their sum alone is one over the law of the sum
pub regroup : (law : List ℕ) (laws : List (List ℕ)) (h : ℕ → ℤ) → IsSumOf law laws → over laws (λ ds. h (sum ds)) ≡ weighted law h
regroup law laws h is =
    let ones : List ℕ = replicate (length law) 1 in
    over-ext laws (λ ds. h (sum ds)) (λ ds. weighted ones (λ e. one_at (sum ds) e *ℤ h e))
    (λ ds s. value_among (length law) (sum ds) h (omega (arith, sum_sequence laws ds s, is.width)))
    ∙ over-weighted laws ones (λ ds e. one_at (sum ds) e *ℤ h e)
    ∙ weighted-ext ones _ _ (λ e. over-scale_right (h e) laws (λ ds. one_at (sum ds) e) ∙ ap (λ z. z *ℤ h e) (sym (is.weights e)))
    ∙ weighted-replicate law h

-- over k periods and n more, whose laws have one sum of weights, w
pub regroup_front : (law : ℕ → List ℕ) (w : ℕ) (same : (t : ℕ) → sum (law t) ≡ w) (lead : List ℕ) (k t n : ℕ) (h : ℕ → ℤ) → IsSumOf lead (laws_from law t k) → over (laws_from law t (k + n)) (λ ds. h (sum (take k ds))) ≡ pos (w ^ n) *ℤ weighted lead h
regroup_front law w same lead k t n h is =
    over_from-front law w same k t n (λ ds. h (sum ds)) ∙ ap (λ z. pos (w ^ n) *ℤ z) (regroup lead (laws_from law t k) h is)

-- ---- the weights of a sum
-- no weight of a sum is below 0
pub weight_of_sum_nonnegative : (laws : List (List ℕ)) (e : ℕ) → pos 0 ≤ℤ weight_of_sum laws e
weight_of_sum_nonnegative laws e = over_nonnegative laws (λ ds. one_at (sum ds) e) (λ ds s. one_at_nonnegative (sum ds) e)

-- past the greatest demand the weight is 0
pub weight_of_sum_past : (laws : List (List ℕ)) (e : ℕ) → greatest_sum laws < e → weight_of_sum laws e ≡ pos 0
weight_of_sum_past laws e lt =
    over-ext laws (λ ds. one_at (sum ds) e) (λ ds. pos 0) (λ ds s. one_at-other (sum ds) e (λ same. absurd (omega (arith, sum_sequence laws ds s, same)))) ∙ over-zero laws

-- the weights of a sum add up to the product of the sums of weights
pub sum-IsSumOf : (law : List ℕ) (laws : List (List ℕ)) → IsSumOf law laws → sum law ≡ totals_of laws
sum-IsSumOf law laws is =
    let same : pos (totals_of laws) *ℤ pos 1 ≡ pos (sum law) *ℤ pos 1 = sym (over-const laws (pos 1)) ∙ regroup law laws (λ e. pos 1) is ∙ weighted-const law (pos 1) in
    omega (arith, ints, same)

-- no law
pub IsSumOf-none : IsSumOf (1 ∷ []) []
IsSumOf-none = record { weights = weight_of; width = refl }
  where
    weight_of : (e : ℕ) → pos (slice_index (1 ∷ []) e) ≡ one_at 0 e
    weight_of zero = refl
    weight_of (suc e) = ap (λ b. if b then pos 1 else pos 0) (sym (eqb-zero-suc e))

-- one law alone
pub IsSumOf-one : (law : List ℕ) → 0 < length law → IsSumOf law (law ∷ [])
IsSumOf-one law some = record {
  weights = λ e. sym (weighted-ext law _ _ (λ d. ap (λ k. one_at k e) (sum-cons d [] ∙ omega arith)) ∙ weighted-one_at law e);
  width = omega arith;
}

-- some laws, and others behind them
pub weight_of_sum-append : (first second : List ℕ) (front back : List (List ℕ)) (e : ℕ) → IsSumOf first front → IsSumOf second back → weight_of_sum (front ++ back) e ≡ weighted first (λ i. weighted second (λ j. one_at (i + j) e))
weight_of_sum-append first second front back e is_first is_second =
    over-append front back (λ ds. one_at (sum ds) e)
    ∙ over-ext front _ _ (λ ds s. over-ext back _ _ (λ es r. ap (λ k. one_at k e) (sum_by-append (λ x. x) ds es)) ∙ regroup second back (λ j. one_at (sum ds + j) e) is_second)
    ∙ regroup first front (λ i. weighted second (λ j. one_at (i + j) e)) is_first

-- two laws: the weights of all pairs that add up to e
pub weight_of_sum-pair : (first second : List ℕ) (e : ℕ) → weight_of_sum (first ∷ second ∷ []) e ≡ weighted first (λ i. weighted second (λ j. one_at (i + j) e))
weight_of_sum-pair first second e =
    weighted-ext first _ _ (λ i. weighted-ext second _ _ (λ j. ap (λ k. one_at k e) (sum-cons i (j ∷ []) ∙ ap (λ k. i + k) (sum-cons j []) ∙ omega arith)))

-- the law of a sum of sums
pub IsSumOf-append : (law first second : List ℕ) (front back : List (List ℕ)) → IsSumOf first front → IsSumOf second back → IsSumOf law (first ∷ second ∷ []) → IsSumOf law (front ++ back)
IsSumOf-append law first second front back is_first is_second is = record {
  weights = λ e. is.weights e ∙ weight_of_sum-pair first second e ∙ sym (weight_of_sum-append first second front back e is_first is_second);
  width = omega (arith, is.width, is_first.width, is_second.width, greatest_sum-append front back);
}

-- one law more, at the end
pub IsSumOf-last : (law before last : List ℕ) (laws : List (List ℕ)) → IsSumOf before laws → 0 < length last → IsSumOf law (before ∷ last ∷ []) → IsSumOf law (laws ++ last ∷ [])
IsSumOf-last law before last laws is_before some is = IsSumOf-append law before last laws (last ∷ []) is_before (IsSumOf-one last some) is

-- the law of a sum of two demands doesn't mind which of them comes first
pub IsSumOf-swap : (law first second : List ℕ) → IsSumOf law (first ∷ second ∷ []) → IsSumOf law (second ∷ first ∷ [])
IsSumOf-swap law first second is = record {
  weights = λ e. is.weights e ∙ weight_of_sum-pair first second e
      ∙ weighted-swap first second (λ i j. one_at (i + j) e)
      ∙ weighted-ext second _ _ (λ j. weighted-ext first _ _ (λ i. ap (λ k. one_at k e) (turned i j)))
      ∙ sym (weight_of_sum-pair second first e);
  width = omega (arith, is.width);
}
  where
    turned : (i j : ℕ) → i + j ≡ j + i
    turned i j = omega arith

-- one law more, at the front
pub IsSumOf-first : (law first after : List ℕ) (laws : List (List ℕ)) → 0 < length first → IsSumOf after laws → IsSumOf law (first ∷ after ∷ []) → IsSumOf law (first ∷ laws)
IsSumOf-first law first after laws some is_after is = IsSumOf-append law first after (first ∷ []) laws (IsSumOf-one first some) is_after is

-- ---- the law of a sum as a function
-- laws have one sum
pub IsSumOf_unique : (law other : List ℕ) (laws : List (List ℕ)) → IsSumOf law laws → IsSumOf other laws → law ≡ other
IsSumOf_unique law other laws is is_other =
    same_number_lists law other (is.width ∙ sym is_other.width) (λ e lt. omega (arith, ints, is.weights e ∙ sym (is_other.weights e)))

-- law_of_sum is the law of the sum
pub IsSumOf-law_of_sum : (laws : List (List ℕ)) → IsSumOf (law_of_sum laws) laws
IsSumOf-law_of_sum laws = record {
  weights = λ e. by_place e (cases_lt e (greatest_sum laws + 1));
  width = length-map-range_with_len (λ e. unsigned_abs (weight_of_sum laws e)) 0 (greatest_sum laws + 1);
}
  where
    by_place : (e : ℕ) → (e < greatest_sum laws + 1) ⊎ (greatest_sum laws + 1 ≤ e) → pos (slice_index (law_of_sum laws) e) ≡ weight_of_sum laws e
    by_place e (inl lt) =
        ap pos (get_or-map-range_with_len (λ k. unsigned_abs (weight_of_sum laws k)) 0 (greatest_sum laws + 1) e e 0 lt (zero-add e))
        ∙ size (weight_of_sum laws e) (weight_of_sum_nonnegative laws e)
      where
        size : (z : ℤ) → pos 0 ≤ℤ z → pos (unsigned_abs z) ≡ z
        size z h = omega (arith, ints)
    by_place e (inr le) =
        ap pos (get_or_past (law_of_sum laws) e 0 (omega (arith, length-map-range_with_len (λ e. unsigned_abs (weight_of_sum laws e)) 0 (greatest_sum laws + 1))))
        ∙ sym (weight_of_sum_past laws e (omega arith))

-- the law of a sum is law_of_sum
pub law_of_sum-is : (law : List ℕ) (laws : List (List ℕ)) → IsSumOf law laws → law ≡ law_of_sum laws
law_of_sum-is law laws is = IsSumOf_unique law (law_of_sum laws) laws is (IsSumOf-law_of_sum laws)

-- ---- the sum of laws is a law
one_at-add : (k s e : ℕ) → one_at (k + s) (k + e) ≡ one_at s e
one_at-add zero s e = ap (λ n. one_at n (0 + e)) (zero-add s) ∙ ap (one_at s) (zero-add e)
one_at-add (suc k) s e =
    ap (λ n. one_at n (suc k + e)) (suc-add k s)
    ∙ ap (one_at (suc (k + s))) (suc-add k e)
    ∙ ap (λ b. if b then pos 1 else pos 0) (eqb-suc-suc (k + s) (k + e))
    ∙ one_at-add k s e

-- the greatest demands come all at once with some weight
pub weight_of_sum_last : (laws : List (List ℕ)) → All IsLaw laws → pos 1 ≤ℤ weight_of_sum laws (greatest_sum laws)
weight_of_sum_last [] all = ≤ℤ_refl (pos 1)
weight_of_sum_last (law ∷ laws) all =
    let is : IsLaw law = all 0 [] (omega arith) in
    let g = greatest_of law in
    let e = g + greatest_sum laws in
    let others : over laws (λ ds. one_at (sum (g ∷ ds)) e) ≡ weight_of_sum laws (greatest_sum laws) = over-ext laws _ _ (λ ds s. ap (λ k. one_at k e) (sum-cons g ds) ∙ one_at-add g (sum ds) (greatest_sum laws)) in
    let least : pos 1 ≤ℤ weight_of_sum laws (greatest_sum laws) = weight_of_sum_last laws (λ k d lt. all (suc k) d (omega arith)) in
    let term = weighted_term law (λ d. over laws (λ ds. one_at (sum (d ∷ ds)) e)) g (omega (arith, is.some)) (λ d. over_nonnegative laws _ (λ ds s. one_at_nonnegative (sum (d ∷ ds)) e)) in
    let scaled = weight_mono (slice_index law g) (pos 1) (over laws (λ ds. one_at (sum (g ∷ ds)) e)) (subst (λ (z : ℤ). pos 1 ≤ℤ z) (sym others) least) in
    omega (arith, ints, is.last, term, scaled, Z.mul_one (pos (slice_index law g)))

-- the law of a sum of laws is a law, if it is not too wide
pub IsLaw-IsSumOf : (law : List ℕ) (laws : List (List ℕ)) → IsSumOf law laws → All IsLaw laws → totals_of laws ≤ 2 ^ 120 → greatest_sum laws ≤ 4000000000 → IsLaw law
IsLaw-IsSumOf law laws is all fits short = record {
  some = omega (arith, is.width);
  last = omega (arith, ints, ap (slice_index law) greatest, is.weights (greatest_sum laws), weight_of_sum_last laws all);
  short = omega (arith, is.width);
  fits = omega (arith, sum-IsSumOf law laws is);
}
  where
    greatest : length law - 1 ≡ greatest_sum laws
    greatest = omega (arith, is.width)

-- ---- the sums of weights
-- the weights of a law add up to more than 0
pub sum_positive : (law : List ℕ) → IsLaw law → 0 < sum law
sum_positive law is = omega (arith, is.some, is.last, get_or-le-sum_by (λ x. x) law (greatest_of law) 0 (omega (arith, is.some)))

-- the product of the sums of weights of laws is above 0
pub totals_of_positive : (laws : List (List ℕ)) → All IsLaw laws → 0 < totals_of laws
totals_of_positive [] all = omega arith
totals_of_positive (law ∷ laws) all =
    let first : 1 ≤ sum law = sum_positive law (all 0 [] (omega arith)) in
    let others : 1 ≤ totals_of laws = totals_of_positive laws (λ k d lt. all (suc k) d (omega arith)) in
    omega (arith, first, others, mul-le-mul_left (sum law) others)
