-- Laws of weighted sums.
use Rattle.std.proofs.Common.{◌≡◌, ℕ, zero, suc, ◌+◌, ◌<◌, ℤ, pos, ◌+ℤ◌, ◌-ℤ◌, ◌*ℤ◌, ◌≤ℤ◌, List, [], ◌∷◌, ◌++◌, length, sum, refl, sym, ◌∙◌, ap, subst, arith, take, slice_index, add-one, zero-add, suc-add}
use Rattle.std.proofs.lemmas.Int.{ints}
use Rattle.std.proofs.lemmas.List.Sums.{sum_by-cons}
use Rattle.std.specs.Int.Signed.{≤ℤ_refl}
use Rattle.demand_law.specs.Law.{weighted}
use Rattle.demand_law.specs.Integers.{mul_add, mul_assoc, mul_comm, mul_sum, mul_zero, weight_mono, add_le, add_assoc, zero_add}

-- one number before others
pub sum-cons : (x : ℕ) (xs : List ℕ) → sum (x ∷ xs) ≡ x + sum xs
sum-cons x xs = sum_by-cons (λ y. y) x xs

-- equal functions have equal sums
pub weighted-ext : (ws : List ℕ) (f g : ℕ → ℤ) → ((d : ℕ) → f d ≡ g d) → weighted ws f ≡ weighted ws g
weighted-ext ws f g h = λ i. weighted ws (λ d. h d i)

-- a sum of functions
pub weighted-add : (ws : List ℕ) (f g : ℕ → ℤ) → weighted ws (λ d. f d +ℤ g d) ≡ weighted ws f +ℤ weighted ws g
weighted-add [] f g = refl
weighted-add (w ∷ ws) f g =
    omega (arith, ints, mul_add (pos w) (f 0) (g 0), weighted-add ws (λ d. f (suc d)) (λ d. g (suc d)))

-- a factor comes out at the left
pub weighted-scale : (c : ℤ) (ws : List ℕ) (f : ℕ → ℤ) → weighted ws (λ d. c *ℤ f d) ≡ c *ℤ weighted ws f
weighted-scale c [] f = omega (arith, ints)
weighted-scale c (w ∷ ws) f =
    omega (arith, ints, mul_add c (pos w *ℤ f 0) (weighted ws (λ d. f (suc d))), weighted-scale c ws (λ d. f (suc d)), mul_assoc c (pos w) (f 0), mul_assoc (pos w) c (f 0), ap (λ z. z *ℤ f 0) (mul_comm c (pos w)))

-- a function that is nowhere greater, on the demands of the law, has no greater sum
pub weighted-mono : (ws : List ℕ) (f g : ℕ → ℤ) → ((d : ℕ) → d < length ws → f d ≤ℤ g d) → weighted ws f ≤ℤ weighted ws g
weighted-mono [] f g h = ≤ℤ_refl (pos 0)
weighted-mono (w ∷ ws) f g h =
    add_le _ _ _ _ (weight_mono w (f 0) (g 0) (h 0 (omega arith))) (weighted-mono ws (λ d. f (suc d)) (λ d. g (suc d)) (λ d lt. h (suc d) (omega arith)))

-- a constant comes out as often as there are weights
pub weighted-const : (ws : List ℕ) (c : ℤ) → weighted ws (λ d. c) ≡ pos (sum ws) *ℤ c
weighted-const [] c = omega (arith, ints)
weighted-const (w ∷ ws) c = ap (λ z. pos w *ℤ c +ℤ z) (weighted-const ws c) ∙ sym (mul_sum w (sum ws) c) ∙ ap (λ k. pos k *ℤ c) (sym (sum-cons w ws))

-- nothing adds up to nothing
pub weighted-zero : (ws : List ℕ) → weighted ws (λ d. pos 0) ≡ pos 0
weighted-zero ws = weighted-const ws (pos 0) ∙ mul_zero (pos (sum ws))

-- one more demand
pub weighted_more : (ws : List ℕ) (i : ℕ) (f : ℕ → ℤ) → i < length ws → weighted (take (i + 1) ws) f ≡ weighted (take i ws) f +ℤ pos (slice_index ws i) *ℤ f i
weighted_more ws i f lt = rw add-one (more ws i f lt)
  where
    more : (ws : List ℕ) (i : ℕ) (f : ℕ → ℤ) → i < length ws → weighted (take (suc i) ws) f ≡ weighted (take i ws) f +ℤ pos (slice_index ws i) *ℤ f i
    more [] i f lt = absurd (omega arith)
    more (w ∷ ws) zero f lt = omega (arith, ints)
    more (w ∷ ws) (suc i) f lt = omega (arith, ints, more ws i (λ d. f (suc d)) (omega arith))

-- ---- linearity
-- functions that are equal on the demands of the law have equal sums
pub weighted-ext_within : (ws : List ℕ) (f g : ℕ → ℤ) → ((d : ℕ) → d < length ws → f d ≡ g d) → weighted ws f ≡ weighted ws g
weighted-ext_within [] f g h = refl
weighted-ext_within (w ∷ ws) f g h =
    ap (λ z. pos w *ℤ z +ℤ weighted ws (λ d. f (suc d))) (h 0 (omega arith))
    ∙ ap (λ z. pos w *ℤ g 0 +ℤ z) (weighted-ext_within ws (λ d. f (suc d)) (λ d. g (suc d)) (λ d lt. h (suc d) (omega arith)))

-- a factor comes out at the right
pub weighted-scale_right : (c : ℤ) (ws : List ℕ) (f : ℕ → ℤ) → weighted ws (λ d. f d *ℤ c) ≡ weighted ws f *ℤ c
weighted-scale_right c ws f = weighted-ext ws _ _ (λ d. mul_comm (f d) c) ∙ weighted-scale c ws f ∙ mul_comm c (weighted ws f)

-- a difference of functions
pub weighted-sub : (ws : List ℕ) (f g : ℕ → ℤ) → weighted ws (λ d. f d -ℤ g d) ≡ weighted ws f -ℤ weighted ws g
weighted-sub ws f g =
    let whole : weighted ws f ≡ weighted ws (λ d. f d -ℤ g d) +ℤ weighted ws g = weighted-ext ws _ _ (λ d. parts (f d) (g d)) ∙ weighted-add ws (λ d. f d -ℤ g d) g in
    omega (arith, ints, whole)
  where
    parts : (a b : ℤ) → a ≡ (a -ℤ b) +ℤ b
    parts a b = omega (arith, ints)

-- two laws may change places
pub weighted-swap : (xs ys : List ℕ) (f : ℕ → ℕ → ℤ) → weighted xs (λ i. weighted ys (f i)) ≡ weighted ys (λ j. weighted xs (λ i. f i j))
weighted-swap [] ys f = sym (weighted-zero ys)
weighted-swap (x ∷ xs) ys f =
    ap (λ z. z +ℤ weighted xs (λ i. weighted ys (f (suc i)))) (sym (weighted-scale (pos x) ys (f 0)))
    ∙ ap (λ z. weighted ys (λ j. pos x *ℤ f 0 j) +ℤ z) (weighted-swap xs ys (λ i. f (suc i)))
    ∙ sym (weighted-add ys (λ j. pos x *ℤ f 0 j) (λ j. weighted xs (λ i. f (suc i) j)))

-- one law behind another, whose demands go on where those of the first end
pub weighted-append : (xs ys : List ℕ) (f : ℕ → ℤ) → weighted (xs ++ ys) f ≡ weighted xs f +ℤ weighted ys (λ d. f (length xs + d))
weighted-append [] ys f = weighted-ext ys _ _ (λ d. ap f (sym (zero-add d))) ∙ sym (zero_add (weighted ys (λ d. f (0 + d))))
weighted-append (x ∷ xs) ys f =
    ap (λ z. pos x *ℤ f 0 +ℤ z) (weighted-append xs ys (λ d. f (suc d)) ∙ ap (λ z. weighted xs (λ d. f (suc d)) +ℤ z) (weighted-ext ys _ _ (λ d. ap f (sym (suc-add (length xs) d)))))
    ∙ sym (add_assoc (pos x *ℤ f 0) (weighted xs (λ d. f (suc d))) (weighted ys (λ d. f (suc (length xs) + d))))

-- ---- bounds
-- at most the greatest value, as often as there are weights
pub weighted_most : (ws : List ℕ) (f : ℕ → ℤ) (c : ℤ) → ((d : ℕ) → d < length ws → f d ≤ℤ c) → weighted ws f ≤ℤ (pos (sum ws) *ℤ c)
weighted_most ws f c h = subst (λ (z : ℤ). weighted ws f ≤ℤ z) (weighted-const ws c) (weighted-mono ws f (λ d. c) h)

-- at least the least value, as often as there are weights
pub weighted_least : (ws : List ℕ) (f : ℕ → ℤ) (c : ℤ) → ((d : ℕ) → d < length ws → c ≤ℤ f d) → (pos (sum ws) *ℤ c) ≤ℤ weighted ws f
weighted_least ws f c h = subst (λ (z : ℤ). z ≤ℤ weighted ws f) (weighted-const ws c) (weighted-mono ws (λ d. c) f h)

-- no value below 0, no sum below 0
pub weighted_nonnegative : (ws : List ℕ) (f : ℕ → ℤ) → ((d : ℕ) → d < length ws → pos 0 ≤ℤ f d) → pos 0 ≤ℤ weighted ws f
weighted_nonnegative ws f h = subst (λ (z : ℤ). z ≤ℤ weighted ws f) (weighted-zero ws) (weighted-mono ws (λ d. pos 0) f h)

-- what one demand adds is at most the whole, where no value is below 0
pub weighted_term : (ws : List ℕ) (f : ℕ → ℤ) (d : ℕ) → d < length ws → ((k : ℕ) → pos 0 ≤ℤ f k) → (pos (slice_index ws d) *ℤ f d) ≤ℤ weighted ws f
weighted_term [] f d lt h = absurd (omega arith)
weighted_term (w ∷ ws) f zero lt h = omega (arith, ints, weighted_nonnegative ws (λ k. f (suc k)) (λ k within. h (suc k)))
weighted_term (w ∷ ws) f (suc d) lt h =
    let first : pos 0 ≤ℤ (pos w *ℤ f 0) = subst (λ (z : ℤ). z ≤ℤ (pos w *ℤ f 0)) (mul_zero (pos w)) (weight_mono w (pos 0) (f 0) (h 0)) in
    omega (arith, ints, first, weighted_term ws (λ k. f (suc k)) d (omega arith) (λ k. h (suc k)))

-- the first demands add at most the whole, where no value is below 0
pub weighted_front : (ws : List ℕ) (k : ℕ) (f : ℕ → ℤ) → ((d : ℕ) → pos 0 ≤ℤ f d) → weighted (take k ws) f ≤ℤ weighted ws f
weighted_front ws zero f h = weighted_nonnegative ws f (λ d lt. h d)
weighted_front [] (suc k) f h = ≤ℤ_refl (pos 0)
weighted_front (w ∷ ws) (suc k) f h = add_le _ _ _ _ (≤ℤ_refl (pos w *ℤ f 0)) (weighted_front ws k (λ d. f (suc d)) (λ d. h (suc d)))
