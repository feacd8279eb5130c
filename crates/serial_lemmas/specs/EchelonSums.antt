-- Laws of sums over echelons.
use Rattle.std.proofs.Common.{◌≡◌, ℕ, suc, ◌*◌, ℤ, pos, ◌+ℤ◌, ◌-ℤ◌, ◌*ℤ◌, List, [], ◌∷◌, length, refl, sym, ◌∙◌, ap, arith}
use Rattle.std.proofs.lemmas.Int.{ints}
use Rattle.demand_law.specs.Law.{weighted}
use Rattle.demand_law.specs.Integers as Z
use Rattle.demand_law.specs.WeightedSums.{weighted-add, weighted-zero}
use Rattle.decision_model.specs.SerialProblem.{after_demand, over_echelons, over_orders}

-- sums of two functions
pub echelons-add : (f g : ℕ → ℤ → ℤ) (i : ℕ) (xs : List ℤ) → over_echelons (λ j x. f j x +ℤ g j x) i xs ≡ over_echelons f i xs +ℤ over_echelons g i xs
echelons-add f g i [] = refl
echelons-add f g i (x ∷ xs) = omega (arith, ints, echelons-add f g (suc i) xs)

-- and differences
pub echelons-sub : (f g : ℕ → ℤ → ℤ) (i : ℕ) (xs : List ℤ) → over_echelons (λ j x. f j x -ℤ g j x) i xs ≡ over_echelons f i xs -ℤ over_echelons g i xs
echelons-sub f g i [] = refl
echelons-sub f g i (x ∷ xs) = omega (arith, ints, echelons-sub f g (suc i) xs)

-- a factor goes outside
pub echelons-scale : (c : ℤ) (f : ℕ → ℤ → ℤ) (i : ℕ) (xs : List ℤ) → over_echelons (λ j x. c *ℤ f j x) i xs ≡ c *ℤ over_echelons f i xs
echelons-scale c f i [] = sym (Z.mul_zero c)
echelons-scale c f i (x ∷ xs) =
    ap (λ z. c *ℤ f i x +ℤ z) (echelons-scale c f (suc i) xs) ∙ sym (Z.mul_add c (f i x) (over_echelons f (suc i) xs))

-- a weighted sum goes into a sum over echelons
pub echelons-weighted : (ws : List ℕ) (f : ℕ → ℤ → ℕ → ℤ) (i : ℕ) (xs : List ℤ) → weighted ws (λ d. over_echelons (λ j x. f j x d) i xs) ≡ over_echelons (λ j x. weighted ws (f j x)) i xs
echelons-weighted ws f i [] = weighted-zero ws
echelons-weighted ws f i (x ∷ xs) =
    weighted-add ws (f i x) (λ d. over_echelons (λ j x. f j x d) (suc i) xs)
    ∙ ap (λ z. weighted ws (f i x) +ℤ z) (echelons-weighted ws f (suc i) xs)

-- positions after a demand
pub echelons-less : (f : ℕ → ℤ → ℤ) (d i : ℕ) (ys : List ℤ) → over_echelons f i (after_demand ys d) ≡ over_echelons (λ j y. f j (y -ℤ pos d)) i ys
echelons-less f d i [] = refl
echelons-less f d i (y ∷ ys) = ap (λ z. f i (y -ℤ pos d) +ℤ z) (echelons-less f d (suc i) ys)

-- a factor of a difference
mul_sub : (c a b : ℤ) → c *ℤ (a -ℤ b) ≡ c *ℤ a -ℤ c *ℤ b
mul_sub c a b =
    let whole : (a -ℤ b) +ℤ b ≡ a = omega (arith, ints) in
    let parts = Z.mul_add c (a -ℤ b) b in
    omega (arith, ints, parts, ap (λ z. c *ℤ z) whole)

-- a rate on each unit that an echelon moves
pub moves-rates : (rate : ℕ → ℕ) (i : ℕ) (xs ys : List ℤ) → length xs ≡ length ys → over_orders (λ j x y. pos (rate j) *ℤ (y -ℤ x)) i xs ys ≡ over_echelons (λ j y. pos (rate j) *ℤ y) i ys -ℤ over_echelons (λ j x. pos (rate j) *ℤ x) i xs
moves-rates rate i [] [] e = refl
moves-rates rate i [] (y ∷ ys) e = absurd (omega (arith, e))
moves-rates rate i (x ∷ xs) [] e = absurd (omega (arith, e))
moves-rates rate i (x ∷ xs) (y ∷ ys) e =
    omega (arith, ints, moves-rates rate (suc i) xs ys (omega (arith, e)), mul_sub (pos (rate i)) y x)

-- a common factor of the rates
pub echelons-rates : (c : ℕ) (rate : ℕ → ℕ) (i : ℕ) (xs : List ℤ) → over_echelons (λ j x. pos (c * rate j) *ℤ x) i xs ≡ pos c *ℤ over_echelons (λ j x. pos (rate j) *ℤ x) i xs
echelons-rates c rate i xs =
    (λ k. over_echelons (λ j x. Z.mul_assoc (pos c) (pos (rate j)) x k) i xs) ∙ echelons-scale (pos c) (λ j x. pos (rate j) *ℤ x) i xs
