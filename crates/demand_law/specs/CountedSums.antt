-- Sums by weight of natural numbers.
use Rattle.std.proofs.Common.{◌≡◌, ℕ, zero, suc, ◌+◌, ◌*◌, ◌<◌, ◌≤◌, pos, ◌+ℤ◌, List, [], ◌∷◌, length, take, slice_index, add-one, sum, refl, ◌∙◌, ap, arith, mul-le-mul_left}
use Rattle.demand_law.specs.Law.{weighted}
use Rattle.demand_law.specs.WeightedSums.{sum-cons}

-- the sum over the demands d of weight(d) times f(d)
abbrev pub counted : List ℕ → (ℕ → ℕ) → ℕ
counted [] f = 0
counted (w ∷ ws) f = w * f 0 + counted ws (λ d. f (suc d))

-- it is the weighted sum of whole numbers
pub counted_is : (ws : List ℕ) (f : ℕ → ℕ) → weighted ws (λ d. pos (f d)) ≡ pos (counted ws f)
counted_is [] f = refl
counted_is (w ∷ ws) f = ap (λ z. pos (w * f 0) +ℤ z) (counted_is ws (λ d. f (suc d)))

-- a constant and a multiple, each on its own
pub counted-line : (ws : List ℕ) (a b : ℕ) (f : ℕ → ℕ) → counted ws (λ d. a + b * f d) ≡ sum ws * a + b * counted ws f
counted-line [] a b f = omega arith
counted-line (w ∷ ws) a b f = omega (arith, counted-line ws a b (λ d. f (suc d)), sum-cons w ws, ap (λ n. n * a) (sum-cons w ws))

-- no less of greater numbers
pub counted-mono : (ws : List ℕ) (f g : ℕ → ℕ) → ((d : ℕ) → d < length ws → f d ≤ g d) → counted ws f ≤ counted ws g
counted-mono [] f g h = omega arith
counted-mono (w ∷ ws) f g h =
    omega (arith, mul-le-mul_left w (h 0 (omega arith)), counted-mono ws (λ d. f (suc d)) (λ d. g (suc d)) (λ d lt. h (suc d) (omega arith)))

-- the same of the same numbers
pub counted-ext : (ws : List ℕ) (f g : ℕ → ℕ) → ((d : ℕ) → d < length ws → f d ≡ g d) → counted ws f ≡ counted ws g
counted-ext [] f g h = refl
counted-ext (w ∷ ws) f g h =
    ap (λ n. w * n + counted ws (λ d. f (suc d))) (h 0 (omega arith))
    ∙ ap (λ n. w * g 0 + n) (counted-ext ws (λ d. f (suc d)) (λ d. g (suc d)) (λ d lt. h (suc d) (omega arith)))

-- a factor goes before the sum
pub counted-scale : (ws : List ℕ) (b : ℕ) (f : ℕ → ℕ) → counted ws (λ d. b * f d) ≡ b * counted ws f
counted-scale [] b f = omega arith
counted-scale (w ∷ ws) b f = omega (arith, counted-scale ws b (λ d. f (suc d)))

-- of one number at each demand
pub counted-const : (ws : List ℕ) (c : ℕ) → counted ws (λ d. c) ≡ sum ws * c
counted-const [] c = omega arith
counted-const (w ∷ ws) c = omega (arith, counted-const ws c, sum-cons w ws, ap (λ n. n * c) (sum-cons w ws))

-- two numbers at each demand, each on its own
pub counted-add : (ws : List ℕ) (f g : ℕ → ℕ) → counted ws (λ d. f d + g d) ≡ counted ws f + counted ws g
counted-add [] f g = omega arith
counted-add (w ∷ ws) f g = omega (arith, counted-add ws (λ d. f (suc d)) (λ d. g (suc d)))

-- two multiples, each on its own
pub counted-pair : (ws : List ℕ) (p q : ℕ) (f g : ℕ → ℕ) → counted ws (λ d. p * f d + q * g d) ≡ p * counted ws f + q * counted ws g
counted-pair ws p q f g = counted-add ws (λ d. p * f d) (λ d. q * g d) ∙ ap (λ n. n + counted ws (λ d. q * g d)) (counted-scale ws p f) ∙ ap (λ n. p * counted ws f + n) (counted-scale ws q g)

-- of numbers that are bounded
pub counted-most : (ws : List ℕ) (f : ℕ → ℕ) (m : ℕ) → ((d : ℕ) → d < length ws → f d ≤ m) → counted ws f ≤ sum ws * m
counted-most ws f m h = omega (arith, counted-mono ws f (λ d. m) h, counted-const ws m)

-- one more demand
pub counted_more : (ws : List ℕ) (i : ℕ) (f : ℕ → ℕ) → i < length ws → counted (take (i + 1) ws) f ≡ counted (take i ws) f + slice_index ws i * f i
counted_more ws i f lt = rw add-one (more ws i f lt)
  where
    more : (ws : List ℕ) (i : ℕ) (f : ℕ → ℕ) → i < length ws → counted (take (suc i) ws) f ≡ counted (take i ws) f + slice_index ws i * f i
    more [] i f lt = absurd (omega arith)
    more (w ∷ ws) zero f lt = omega arith
    more (w ∷ ws) (suc i) f lt = omega (arith, more ws i (λ d. f (suc d)) (omega arith))

-- the first demands count no more than all
pub counted_front : (ws : List ℕ) (k : ℕ) (f : ℕ → ℕ) → counted (take k ws) f ≤ counted ws f
counted_front ws zero f = omega arith
counted_front [] (suc k) f = omega arith
counted_front (w ∷ ws) (suc k) f = omega (arith, counted_front ws k (λ d. f (suc d)))
