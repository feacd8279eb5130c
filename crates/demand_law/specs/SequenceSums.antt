-- Laws of sums over sequences.
use Rattle.std.proofs.Common.{◌≡◌, ℕ, zero, suc, ◌+◌, ◌*◌, ◌^◌, ◌<◌, ◌≤◌, ℤ, pos, ◌+ℤ◌, ◌-ℤ◌, ◌*ℤ◌, ◌≤ℤ◌, List, [], ◌∷◌, ◌++◌, length, take, drop, sum, slice_index, slice_index_or, refl, sym, ◌∙◌, ap, subst, arith, zero-add, suc-add, add-zero, mul_assoc}
use Rattle.std.proofs.Math.Nat.{pow-zero}
use Rattle.demand_law.specs.Law.{weighted, greatest_of}
use Rattle.demand_law.specs.Sequences.{over, IsSequence, laws_from, totals_of, greatest_sum}
use Rattle.demand_law.specs.Integers as Z
use Rattle.demand_law.specs.WeightedSums.{sum-cons, weighted-ext, weighted-ext_within, weighted-add, weighted-sub, weighted-scale, weighted-mono, weighted-const, weighted-zero, weighted-swap}

-- ---- sequences
-- a sequence has one demand for each law
pub length-sequence : (laws : List (List ℕ)) (ds : List ℕ) → IsSequence laws ds → length ds ≡ length laws
length-sequence [] [] s = refl
length-sequence [] (d ∷ ds) s = absurd s
length-sequence (law ∷ laws) [] s = absurd s
length-sequence (law ∷ laws) (d ∷ ds) s = ap suc (length-sequence laws ds s.1)

-- no sequence adds up to more than the greatest demands do
pub sum_sequence : (laws : List (List ℕ)) (ds : List ℕ) → IsSequence laws ds → sum ds ≤ greatest_sum laws
sum_sequence [] [] s = omega arith
sum_sequence [] (d ∷ ds) s = absurd s
sum_sequence (law ∷ laws) [] s = absurd s
sum_sequence (law ∷ laws) (d ∷ ds) s = omega (arith, s.0, sum_sequence laws ds s.1, sum-cons d ds)

-- a sequence behind another
pub sequence_joined : (front back : List (List ℕ)) (ds es : List ℕ) → IsSequence front ds → IsSequence back es → IsSequence (front ++ back) (ds ++ es)
sequence_joined [] back [] es s r = r
sequence_joined [] back (d ∷ ds) es s r = absurd s
sequence_joined (law ∷ front) back [] es s r = absurd s
sequence_joined (law ∷ front) back (d ∷ ds) es s r = (s.0, sequence_joined front back ds es s.1 r)

-- the demands of the first laws
pub sequence_front : (front back : List (List ℕ)) (ds : List ℕ) → IsSequence (front ++ back) ds → IsSequence front (take (length front) ds)
sequence_front [] back ds s = tt
sequence_front (law ∷ front) back [] s = absurd s
sequence_front (law ∷ front) back (d ∷ ds) s = (s.0, sequence_front front back ds s.1)

-- the demands of the last laws
pub sequence_back : (front back : List (List ℕ)) (ds : List ℕ) → IsSequence (front ++ back) ds → IsSequence back (drop (length front) ds)
sequence_back [] back ds s = s
sequence_back (law ∷ front) back [] s = absurd s
sequence_back (law ∷ front) back (d ∷ ds) s = sequence_back front back ds s.1

-- each demand is one of its law
pub sequence_at : (laws : List (List ℕ)) (ds : List ℕ) (k : ℕ) → IsSequence laws ds → k < length laws → slice_index ds k < length (slice_index_or laws k [])
sequence_at [] ds k s lt = absurd (omega arith)
sequence_at (law ∷ laws) [] k s lt = absurd s
sequence_at (law ∷ laws) (d ∷ ds) zero s lt = s.0
sequence_at (law ∷ laws) (d ∷ ds) (suc k) s lt = sequence_at laws ds k s.1 (omega arith)

-- ---- the laws of periods
-- there are as many laws as periods
pub length-laws_from : (law : ℕ → List ℕ) (t n : ℕ) → length (laws_from law t n) ≡ n
length-laws_from law t zero = refl
length-laws_from law t (suc n) = ap suc (length-laws_from law (suc t) n)

-- the laws of the same periods, told another way
pub laws_from-ext : (law other : ℕ → List ℕ) (t s n : ℕ) → ((k : ℕ) → k < n → law (t + k) ≡ other (s + k)) → laws_from law t n ≡ laws_from other s n
laws_from-ext law other t s zero h = refl
laws_from-ext law other t s (suc n) h =
    ap (λ l. l ∷ laws_from law (suc t) n) (ap law (sym (add-zero t)) ∙ h 0 (omega arith) ∙ ap other (add-zero s))
    ∙ ap (λ l. other s ∷ l) (laws_from-ext law other (suc t) (suc s) n (λ k lt. ap law (moved t k) ∙ h (suc k) (omega arith) ∙ ap other (sym (moved s k))))
  where
    moved : (a k : ℕ) → suc a + k ≡ a + suc k
    moved a k = omega arith

-- the laws of k periods, and those of n more
pub laws_from-append : (law : ℕ → List ℕ) (t k n : ℕ) → laws_from law t (k + n) ≡ laws_from law t k ++ laws_from law (t + k) n
laws_from-append law t zero n = ap (laws_from law t) (zero-add n) ∙ ap (λ s. laws_from law s n) (sym (add-zero t))
laws_from-append law t (suc k) n =
    ap (laws_from law t) (suc-add k n)
    ∙ ap (λ l. law t ∷ l) (laws_from-append law (suc t) k n ∙ ap (λ s. laws_from law (suc t) k ++ laws_from law s n) moved)
  where
    moved : suc t + k ≡ t + suc k
    moved = omega arith

-- the law of a period
pub slice_index_or-laws_from : (law : ℕ → List ℕ) (t n k : ℕ) (d : List ℕ) → k < n → slice_index_or (laws_from law t n) k d ≡ law (t + k)
slice_index_or-laws_from law t zero k d lt = absurd (omega arith)
slice_index_or-laws_from law t (suc n) zero d lt = ap law (sym (add-zero t))
slice_index_or-laws_from law t (suc n) (suc k) d lt = slice_index_or-laws_from law (suc t) n k d (omega arith) ∙ ap law moved
  where
    moved : suc t + k ≡ t + suc k
    moved = omega arith

-- laws of greatest demand m or less
pub greatest_sum_laws_from : (law : ℕ → List ℕ) (m t n : ℕ) → ((s : ℕ) → greatest_of (law s) ≤ m) → greatest_sum (laws_from law t n) ≤ n * m
greatest_sum_laws_from law m t zero most = omega arith
greatest_sum_laws_from law m t (suc n) most = omega (arith, most t, greatest_sum_laws_from law m (suc t) n most)

-- one period more
pub laws_from-last : (law : ℕ → List ℕ) (t n : ℕ) → laws_from law t (n + 1) ≡ laws_from law t n ++ law (t + n) ∷ []
laws_from-last law t n = laws_from-append law t n 1

-- ---- linearity
-- a sum of functions
pub over-add : (laws : List (List ℕ)) (f g : List ℕ → ℤ) → over laws (λ ds. f ds +ℤ g ds) ≡ over laws f +ℤ over laws g
over-add [] f g = refl
over-add (law ∷ laws) f g =
    weighted-ext law _ _ (λ d. over-add laws (λ ds. f (d ∷ ds)) (λ ds. g (d ∷ ds))) ∙ weighted-add law _ _

-- a difference of functions
pub over-sub : (laws : List (List ℕ)) (f g : List ℕ → ℤ) → over laws (λ ds. f ds -ℤ g ds) ≡ over laws f -ℤ over laws g
over-sub [] f g = refl
over-sub (law ∷ laws) f g =
    weighted-ext law _ _ (λ d. over-sub laws (λ ds. f (d ∷ ds)) (λ ds. g (d ∷ ds))) ∙ weighted-sub law _ _

-- a factor comes out at the left
pub over-scale : (c : ℤ) (laws : List (List ℕ)) (f : List ℕ → ℤ) → over laws (λ ds. c *ℤ f ds) ≡ c *ℤ over laws f
over-scale c [] f = refl
over-scale c (law ∷ laws) f =
    weighted-ext law _ _ (λ d. over-scale c laws (λ ds. f (d ∷ ds))) ∙ weighted-scale c law _

-- a factor comes out at the right
pub over-scale_right : (c : ℤ) (laws : List (List ℕ)) (f : List ℕ → ℤ) → over laws (λ ds. f ds *ℤ c) ≡ over laws f *ℤ c
over-scale_right c laws f =
    ap (over laws) (λ i ds. Z.mul_comm (f ds) c i) ∙ over-scale c laws f ∙ Z.mul_comm c (over laws f)

-- nothing adds up to nothing
pub over-zero : (laws : List (List ℕ)) → over laws (λ ds. pos 0) ≡ pos 0
over-zero [] = refl
over-zero (law ∷ laws) = weighted-ext law _ _ (λ d. over-zero laws) ∙ weighted-zero law

-- ---- order and extensionality, on the sequences alone
-- a function that is nowhere greater has no greater sum
pub over-mono : (laws : List (List ℕ)) (f g : List ℕ → ℤ) → ((ds : List ℕ) → IsSequence laws ds → f ds ≤ℤ g ds) → over laws f ≤ℤ over laws g
over-mono [] f g h = h [] tt
over-mono (law ∷ laws) f g h =
    weighted-mono law _ _ (λ d lt. over-mono laws (λ ds. f (d ∷ ds)) (λ ds. g (d ∷ ds)) (λ ds s. h (d ∷ ds) (lt, s)))

-- functions that are equal on the sequences have equal sums
pub over-ext : (laws : List (List ℕ)) (f g : List ℕ → ℤ) → ((ds : List ℕ) → IsSequence laws ds → f ds ≡ g ds) → over laws f ≡ over laws g
over-ext [] f g h = h [] tt
over-ext (law ∷ laws) f g h =
    weighted-ext_within law _ _ (λ d lt. over-ext laws (λ ds. f (d ∷ ds)) (λ ds. g (d ∷ ds)) (λ ds s. h (d ∷ ds) (lt, s)))

-- ---- more laws
-- some laws before others
pub over-append : (front back : List (List ℕ)) (f : List ℕ → ℤ) → over (front ++ back) f ≡ over front (λ ds. over back (λ es. f (ds ++ es)))
over-append [] back f = refl
over-append (law ∷ front) back f = weighted-ext law _ _ (λ d. over-append front back (λ ds. f (d ∷ ds)))

-- one law at the end
pub over-last : (laws : List (List ℕ)) (law : List ℕ) (f : List ℕ → ℤ) → over (laws ++ law ∷ []) f ≡ over laws (λ ds. weighted law (λ d. f (ds ++ d ∷ [])))
over-last laws law f = over-append laws (law ∷ []) f

-- one period before n + l others
pub over-first : (law : ℕ → List ℕ) (t n l : ℕ) (f : List ℕ → ℤ) → over (laws_from law t (suc n + l)) f ≡ weighted (law t) (λ d. over (laws_from law (suc t) (n + l)) (λ ds. f (d ∷ ds)))
over-first law t n l f = ap (λ k. over (laws_from law t k) f) (suc-add n l)

-- a sum by one more law, inside or outside
pub over-weighted : (laws : List (List ℕ)) (law : List ℕ) (f : List ℕ → ℕ → ℤ) → over laws (λ ds. weighted law (f ds)) ≡ weighted law (λ d. over laws (λ ds. f ds d))
over-weighted [] law f = refl
over-weighted (first ∷ laws) law f =
    weighted-ext first _ _ (λ i. over-weighted laws law (λ ds. f (i ∷ ds)))
    ∙ weighted-swap first law (λ i d. over laws (λ ds. f (i ∷ ds) d))

-- two groups of laws may change places
pub over-swap : (front back : List (List ℕ)) (f : List ℕ → List ℕ → ℤ) → over front (λ ds. over back (f ds)) ≡ over back (λ es. over front (λ ds. f ds es))
over-swap [] back f = refl
over-swap (law ∷ front) back f =
    weighted-ext law _ _ (λ d. over-swap front back (λ ds. f (d ∷ ds)))
    ∙ sym (over-weighted back law (λ es d. over front (λ ds. f (d ∷ ds) es)))

-- ---- constants
-- a constant comes out as often as there are sequences, each counted with its weight
pub over-const : (laws : List (List ℕ)) (c : ℤ) → over laws (λ ds. c) ≡ pos (totals_of laws) *ℤ c
over-const [] c = sym (Z.one_mul c)
over-const (law ∷ laws) c =
    weighted-ext law _ _ (λ d. over-const laws c)
    ∙ weighted-const law (pos (totals_of laws) *ℤ c)
    ∙ sym (Z.mul_assoc (pos (sum law)) (pos (totals_of laws)) c)

-- the product over some laws and others
pub totals_of-append : (front back : List (List ℕ)) → totals_of (front ++ back) ≡ totals_of front * totals_of back
totals_of-append [] back = omega arith
totals_of-append (law ∷ front) back = ap (λ n. sum law * n) (totals_of-append front back) ∙ sym (mul_assoc (sum law) (totals_of front) (totals_of back))

-- the greatest demands of some laws and others
pub greatest_sum-append : (front back : List (List ℕ)) → greatest_sum (front ++ back) ≡ greatest_sum front + greatest_sum back
greatest_sum-append [] back = omega arith
greatest_sum-append (law ∷ front) back = omega (arith, greatest_sum-append front back)

-- what depends on the demands of the first laws alone
pub over-front : (front back : List (List ℕ)) (g : List ℕ → ℤ) → over (front ++ back) (λ ds. g (take (length front) ds)) ≡ pos (totals_of back) *ℤ over front g
over-front [] back g = over-const back (g [])
over-front (law ∷ front) back g =
    weighted-ext law _ _ (λ d. over-front front back (λ ds. g (d ∷ ds)))
    ∙ weighted-scale (pos (totals_of back)) law (λ d. over front (λ ds. g (d ∷ ds)))

-- what depends on the demands of the last laws alone
pub over-back : (front back : List (List ℕ)) (g : List ℕ → ℤ) → over (front ++ back) (λ ds. g (drop (length front) ds)) ≡ pos (totals_of front) *ℤ over back g
over-back [] back g = sym (Z.one_mul (over back g))
over-back (law ∷ front) back g =
    weighted-ext law _ _ (λ d. over-back front back g)
    ∙ weighted-const law (pos (totals_of front) *ℤ over back g)
    ∙ sym (Z.mul_assoc (pos (sum law)) (pos (totals_of front)) (over back g))

-- ---- bounds
-- at most the greatest value on the sequences
pub over_most : (laws : List (List ℕ)) (f : List ℕ → ℤ) (c : ℤ) → ((ds : List ℕ) → IsSequence laws ds → f ds ≤ℤ c) → over laws f ≤ℤ (pos (totals_of laws) *ℤ c)
over_most laws f c h = subst (λ (z : ℤ). over laws f ≤ℤ z) (over-const laws c) (over-mono laws f (λ ds. c) h)

-- at least the least value on the sequences
pub over_least : (laws : List (List ℕ)) (f : List ℕ → ℤ) (c : ℤ) → ((ds : List ℕ) → IsSequence laws ds → c ≤ℤ f ds) → (pos (totals_of laws) *ℤ c) ≤ℤ over laws f
over_least laws f c h = subst (λ (z : ℤ). z ≤ℤ over laws f) (over-const laws c) (over-mono laws (λ ds. c) f h)

-- no value below 0, no sum below 0
pub over_nonnegative : (laws : List (List ℕ)) (f : List ℕ → ℤ) → ((ds : List ℕ) → IsSequence laws ds → pos 0 ≤ℤ f ds) → pos 0 ≤ℤ over laws f
over_nonnegative laws f h = subst (λ (z : ℤ). z ≤ℤ over laws f) (over-zero laws) (over-mono laws (λ ds. pos 0) f h)

-- ---- periods whose laws have one sum of weights, w
module _ (law : ℕ → List ℕ) (w : ℕ) (same : (t : ℕ) → sum (law t) ≡ w) where
  -- the product over n periods is a power
  pub totals_of-laws_from : (t n : ℕ) → totals_of (laws_from law t n) ≡ w ^ n
  totals_of-laws_from t zero = sym (pow-zero w)
  totals_of-laws_from t (suc n) = ap (λ k. k * totals_of (laws_from law (suc t) n)) (same t) ∙ ap (λ k. w * k) (totals_of-laws_from (suc t) n) ∙ Z.pow_first w n

  -- a constant over n periods
  pub over_from-const : (t n : ℕ) (c : ℤ) → over (laws_from law t n) (λ ds. c) ≡ pos (w ^ n) *ℤ c
  over_from-const t n c = over-const (laws_from law t n) c ∙ ap (λ k. pos k *ℤ c) (totals_of-laws_from t n)

  -- what depends on the first k demands alone
  pub over_from-front : (k t n : ℕ) (g : List ℕ → ℤ) → over (laws_from law t (k + n)) (λ ds. g (take k ds)) ≡ pos (w ^ n) *ℤ over (laws_from law t k) g
  over_from-front k t n g =
      ap (λ l. over (laws_from law t (k + n)) (λ ds. g (take l ds))) (sym (length-laws_from law t k))
      ∙ ap (λ laws. over laws (λ ds. g (take (length (laws_from law t k)) ds))) (laws_from-append law t k n)
      ∙ over-front (laws_from law t k) (laws_from law (t + k) n) g
      ∙ ap (λ l. pos l *ℤ over (laws_from law t k) g) (totals_of-laws_from (t + k) n)

  -- what doesn't depend on the first k demands
  pub over_from-back : (k t n : ℕ) (g : List ℕ → ℤ) → over (laws_from law t (k + n)) (λ ds. g (drop k ds)) ≡ pos (w ^ k) *ℤ over (laws_from law (t + k) n) g
  over_from-back k t n g =
      ap (λ l. over (laws_from law t (k + n)) (λ ds. g (drop l ds))) (sym (length-laws_from law t k))
      ∙ ap (λ laws. over laws (λ ds. g (drop (length (laws_from law t k)) ds))) (laws_from-append law t k n)
      ∙ over-back (laws_from law t k) (laws_from law (t + k) n) g
      ∙ ap (λ l. pos l *ℤ over (laws_from law (t + k) n) g) (totals_of-laws_from t k)
