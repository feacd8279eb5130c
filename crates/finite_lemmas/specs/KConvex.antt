-- Convexity but for a setup cost, on a grid of whole positions, after Scarf (1960): what keeps it.
use Rattle.std.proofs.Common.{◌≡◌, ℕ, ◌+◌, ◌-◌, ◌*◌, ◌<◌, ◌≤◌, ℤ, pos, negsuc, ◌+ℤ◌, ◌-ℤ◌, ◌*ℤ◌, ◌≤ℤ◌, List, length, sum, sym, ap, arith, subst}
use Rattle.std.proofs.lemmas.Int.{ints, by_lt_z}
use borrow.Author.Differences.{up, down}
use Rattle.demand_law.specs.Law.{weighted}
use Rattle.demand_law.specs.Integers as Z
use Rattle.demand_law.specs.WeightedSums.{weighted-add, weighted-sub, weighted-mono, weighted-scale, weighted-const}
use Rattle.decision_model.specs.Positions.{above_zero}

-- f is convex between low and cap but for a setup cost K: with K = 0 it is convex
abbrev pub IsKConvexOn : ℕ → ℤ → ℤ → (ℤ → ℤ) → Type 0
IsKConvexOn K low cap f =
    (y : ℤ) (r k : ℕ) → 1 ≤ r → 1 ≤ k → low ≤ℤ (y -ℤ pos r) → (y +ℤ pos k) ≤ℤ cap
    → (pos r *ℤ f y +ℤ pos k *ℤ (f y -ℤ f (y -ℤ pos r))) ≤ℤ (pos r *ℤ (pos K +ℤ f (y +ℤ pos k)))

-- ---- the slope form: k times what f gains behind y is at most r times what it gains before y, with the setup cost
abbrev pub HasSlopes : ℕ → ℤ → ℤ → (ℤ → ℤ) → Type 0
HasSlopes K low cap f =
    (y : ℤ) (r k : ℕ) → 1 ≤ r → 1 ≤ k → low ≤ℤ (y -ℤ pos r) → (y +ℤ pos k) ≤ℤ cap → (pos k *ℤ (f y -ℤ f (y -ℤ pos r))) ≤ℤ (pos r *ℤ (pos K +ℤ f (y +ℤ pos k) -ℤ f y))

-- a factor goes into a difference
pub mul_sub : (a b c : ℤ) → a *ℤ (b -ℤ c) ≡ a *ℤ b -ℤ a *ℤ c
mul_sub a b c =
    let whole : b ≡ (b -ℤ c) +ℤ c = omega (arith, ints) in
    let parts = Z.mul_add a (b -ℤ c) c in
    omega (arith, ints, ap (λ z. a *ℤ z) whole, parts)

-- from the inequality to the slopes
pub slopes : (K : ℕ) (low cap : ℤ) (f : ℤ → ℤ) → IsKConvexOn K low cap f → HasSlopes K low cap f
slopes K low cap f h y r k some_r some_k from to =
    omega (arith, ints, h y r k some_r some_k from to, mul_sub (pos r) (pos K +ℤ f (y +ℤ pos k)) (f y))

-- and back
pub from_slopes : (K : ℕ) (low cap : ℤ) (f : ℤ → ℤ) → HasSlopes K low cap f → IsKConvexOn K low cap f
from_slopes K low cap f h y r k some_r some_k from to =
    omega (arith, ints, h y r k some_r some_k from to, mul_sub (pos r) (pos K +ℤ f (y +ℤ pos k)) (f y))

-- ---- what keeps it
-- a sum: the setup costs add up
pub kconvex-add : (K H : ℕ) (low cap : ℤ) (f g : ℤ → ℤ) → IsKConvexOn K low cap f → IsKConvexOn H low cap g → IsKConvexOn (K + H) low cap (λ x. f x +ℤ g x)
kconvex-add K H low cap f g hf hg = from_slopes (K + H) low cap (λ x. f x +ℤ g x)
    (λ y r k some_r some_k from to.
    let e : (f y +ℤ g y) -ℤ (f (y -ℤ pos r) +ℤ g (y -ℤ pos r)) ≡ (f y -ℤ f (y -ℤ pos r)) +ℤ (g y -ℤ g (y -ℤ pos r)) = omega (arith, ints) in
    let c : pos (K + H) +ℤ (f (y +ℤ pos k) +ℤ g (y +ℤ pos k)) -ℤ (f y +ℤ g y) ≡ (pos K +ℤ f (y +ℤ pos k) -ℤ f y) +ℤ (pos H +ℤ g (y +ℤ pos k) -ℤ g y) = omega (arith, ints) in
    omega (
      arith,
      ints,
      slopes K low cap f hf y r k some_r some_k from to,
      slopes H low cap g hg y r k some_r some_k from to,
      ap (λ z. pos k *ℤ z) e,
      ap (λ z. pos r *ℤ z) c,
      Z.mul_add (pos k) (f y -ℤ f (y -ℤ pos r)) (g y -ℤ g (y -ℤ pos r)),
      Z.mul_add (pos r) (pos K +ℤ f (y +ℤ pos k) -ℤ f y) (pos H +ℤ g (y +ℤ pos k) -ℤ g y),
    ))

-- a larger setup cost
pub kconvex-more : (K H : ℕ) (low cap : ℤ) (f : ℤ → ℤ) → K ≤ H → IsKConvexOn K low cap f → IsKConvexOn H low cap f
kconvex-more K H low cap f le h y r k some_r some_k from to =
    Z.le_trans _ _ _ (h y r k some_r some_k from to) (Z.weight_mono r (pos K +ℤ f (y +ℤ pos k)) (pos H +ℤ f (y +ℤ pos k)) (omega (arith, ints, le)))

-- a factor on the right inside a product
mul_swap : (a b c : ℤ) → a *ℤ (b *ℤ c) ≡ b *ℤ (a *ℤ c)
mul_swap a b c = omega (arith, ints, Z.mul_assoc a b c, Z.mul_assoc b a c, ap (λ z. z *ℤ c) (Z.mul_comm a b))

-- a factor: the setup cost grows with it
pub kconvex-scale : (K : ℕ) (low cap : ℤ) (c : ℕ) (f : ℤ → ℤ) → IsKConvexOn K low cap f → IsKConvexOn (c * K) low cap (λ x. pos c *ℤ f x)
kconvex-scale K low cap c f h = from_slopes (c * K) low cap (λ x. pos c *ℤ f x)
    (λ y r k some_r some_k from to.
    let scaled = Z.weight_mono c _ _ (slopes K low cap f h y r k some_r some_k from to) in
    let behind : pos c *ℤ f y -ℤ pos c *ℤ f (y -ℤ pos r) ≡ pos c *ℤ (f y -ℤ f (y -ℤ pos r)) = sym (mul_sub (pos c) (f y) (f (y -ℤ pos r))) in
    let before : pos (c * K) +ℤ pos c *ℤ f (y +ℤ pos k) -ℤ pos c *ℤ f y ≡ pos c *ℤ (pos K +ℤ f (y +ℤ pos k) -ℤ f y) =
    omega (arith, ints, mul_sub (pos c) (pos K +ℤ f (y +ℤ pos k)) (f y), Z.mul_add (pos c) (pos K) (f (y +ℤ pos k))) in
    omega (
      arith,
      ints,
      scaled,
      ap (λ z. pos k *ℤ z) behind,
      ap (λ z. pos r *ℤ z) before,
      mul_swap (pos k) (pos c) (f y -ℤ f (y -ℤ pos r)),
      mul_swap (pos r) (pos c) (pos K +ℤ f (y +ℤ pos k) -ℤ f y),
    ))

-- what is so to a lower end is so after a demand
pub kconvex-shift : (K : ℕ) (low lower cap : ℤ) (d : ℕ) (f : ℤ → ℤ) → lower ≤ℤ (low -ℤ pos d) → IsKConvexOn K lower cap f → IsKConvexOn K low cap (λ x. f (x -ℤ pos d))
kconvex-shift K low lower cap d f le h y r k some_r some_k from to =
    let here = h (y -ℤ pos d) r k some_r some_k (omega (arith, ints, le, from)) (omega (arith, ints, to)) in
    let behind : (y -ℤ pos d) -ℤ pos r ≡ (y -ℤ pos r) -ℤ pos d = omega (arith, ints) in
    let before : (y -ℤ pos d) +ℤ pos k ≡ (y +ℤ pos k) -ℤ pos d = omega (arith, ints) in
    subst (λ (u : ℤ). (pos r *ℤ f (y -ℤ pos d) +ℤ pos k *ℤ (f (y -ℤ pos d) -ℤ f ((y -ℤ pos r) -ℤ pos d))) ≤ℤ (pos r *ℤ (pos K +ℤ f u))) before
    (subst (λ (u : ℤ). (pos r *ℤ f (y -ℤ pos d) +ℤ pos k *ℤ (f (y -ℤ pos d) -ℤ f u)) ≤ℤ (pos r *ℤ (pos K +ℤ f ((y -ℤ pos d) +ℤ pos k)))) behind here)

-- a weighted sum: the setup cost counts as often as there are weights
pub kconvex-weighted : (K : ℕ) (low cap : ℤ) (ws : List ℕ) (f : ℤ → ℕ → ℤ) → ((d : ℕ) → d < length ws → IsKConvexOn K low cap (λ x. f x d)) → IsKConvexOn (sum ws * K) low cap (λ x. weighted ws (f x))
kconvex-weighted K low cap ws f h = from_slopes (sum ws * K) low cap (λ x. weighted ws (f x))
    (λ y r k some_r some_k from to.
    let lower = f (y -ℤ pos r) in
    let upper = f (y +ℤ pos k) in
    let each = weighted-mono ws (λ d. pos k *ℤ (f y d -ℤ lower d)) (λ d. pos r *ℤ (pos K +ℤ upper d -ℤ f y d)) (λ d lt. slopes K low cap (λ x. f x d) (h d lt) y r k some_r some_k from to) in
    let behind = weighted-sub ws (f y) lower in
    let setup : weighted ws (λ d. pos K) ≡ pos (sum ws * K) = omega (arith, ints, weighted-const ws (pos K)) in
    let before : weighted ws (λ d. pos K +ℤ upper d -ℤ f y d) ≡ pos (sum ws * K) +ℤ weighted ws upper -ℤ weighted ws (f y) =
    omega (arith, ints, weighted-sub ws (λ d. pos K +ℤ upper d) (f y), weighted-add ws (λ d. pos K) upper, setup) in
    omega (arith, ints, each, weighted-scale (pos k) ws (λ d. f y d -ℤ lower d), weighted-scale (pos r) ws (λ d. pos K +ℤ upper d -ℤ f y d), ap (λ z. pos k *ℤ z) behind, ap (λ z. pos r *ℤ z) before))

-- ---- convex functions
-- a line, with either sign
pub kconvex-line : (low cap : ℤ) (c : ℤ) → IsKConvexOn 0 low cap (λ x. c *ℤ x)
kconvex-line low cap c = from_slopes 0 low cap (λ x. c *ℤ x)
    (λ y r k some_r some_k from to.
    let behind : c *ℤ y -ℤ c *ℤ (y -ℤ pos r) ≡ c *ℤ pos r = omega (arith, ints, mul_sub c y (pos r)) in
    let before : pos 0 +ℤ c *ℤ (y +ℤ pos k) -ℤ c *ℤ y ≡ c *ℤ pos k = omega (arith, ints, Z.mul_add c y (pos k)) in
    omega (arith, ints, ap (λ z. pos k *ℤ z) behind, ap (λ z. pos r *ℤ z) before, mul_swap (pos k) c (pos r), mul_swap (pos r) c (pos k), ap (λ z. c *ℤ z) (Z.mul_comm (pos k) (pos r))))

-- above_zero as a difference of naturals
pub above_zero_is : (z : ℤ) → above_zero z ≡ up z - down z
above_zero_is (pos n) = omega arith
above_zero_is (negsuc n) = omega arith

-- what is gained behind is at most 0, and before at least 0
pub flat : (r k : ℕ) (behind before : ℤ) → behind ≤ℤ pos 0 → pos 0 ≤ℤ before → (pos k *ℤ behind) ≤ℤ (pos r *ℤ before)
flat r k behind before fall rise =
    Z.le_trans _ _ _ (subst (λ (z : ℤ). (pos k *ℤ behind) ≤ℤ z) (Z.mul_zero (pos k)) (Z.weight_mono k behind (pos 0) fall))
    (subst (λ (z : ℤ). z ≤ℤ (pos r *ℤ before)) (Z.mul_zero (pos r)) (Z.weight_mono r (pos 0) before rise))

-- at most r is gained behind, and at least k before
pub steep : (r k : ℕ) (behind before : ℤ) → behind ≤ℤ pos r → pos k ≤ℤ before → (pos k *ℤ behind) ≤ℤ (pos r *ℤ before)
steep r k behind before least most =
    Z.le_trans _ _ _ (Z.weight_mono k behind (pos r) least)
    (subst (λ (z : ℤ). z ≤ℤ (pos r *ℤ before)) (Z.mul_comm (pos r) (pos k)) (Z.weight_mono r (pos k) before most))

-- at most -r is gained behind, and at least -k before
pub downhill : (r k : ℕ) (behind before : ℤ) → behind ≤ℤ (pos 0 -ℤ pos r) → (pos 0 -ℤ pos k) ≤ℤ before → (pos k *ℤ behind) ≤ℤ (pos r *ℤ before)
downhill r k behind before most least =
    let same : pos k *ℤ (pos 0 -ℤ pos r) ≡ pos r *ℤ (pos 0 -ℤ pos k) = omega (arith, ints, mul_sub (pos k) (pos 0) (pos r), mul_sub (pos r) (pos 0) (pos k), Z.mul_comm (pos k) (pos r)) in
    Z.le_trans _ _ _ (Z.weight_mono k behind (pos 0 -ℤ pos r) most)
    (subst (λ (z : ℤ). z ≤ℤ (pos r *ℤ before)) (sym same) (Z.weight_mono r (pos 0 -ℤ pos k) before least))

-- what is left of a position after demands e
pub kconvex-left : (low cap e : ℤ) → IsKConvexOn 0 low cap (λ x. pos (above_zero (x -ℤ e)))
kconvex-left low cap e = from_slopes 0 low cap (λ x. pos (above_zero (x -ℤ e)))
    (λ y r k some_r some_k from to.
    let here = above_zero_is (y -ℤ e) in
    let behind = above_zero_is ((y -ℤ pos r) -ℤ e) in
    let before = above_zero_is ((y +ℤ pos k) -ℤ e) in
    by_lt_z y e
    (λ below. flat r k _ _ (omega (arith, ints, here, behind, below)) (omega (arith, ints, here, before, below)))
    (λ above. steep r k _ _ (omega (arith, ints, here, behind, above)) (omega (arith, ints, here, before, above))))

-- what lacks of demands e
pub kconvex-lacking : (low cap e : ℤ) → IsKConvexOn 0 low cap (λ x. pos (above_zero (e -ℤ x)))
kconvex-lacking low cap e = from_slopes 0 low cap (λ x. pos (above_zero (e -ℤ x)))
    (λ y r k some_r some_k from to.
    let here = above_zero_is (e -ℤ y) in
    let behind = above_zero_is (e -ℤ (y -ℤ pos r)) in
    let before = above_zero_is (e -ℤ (y +ℤ pos k)) in
    by_lt_z y e
    (λ below. downhill r k _ _ (omega (arith, ints, here, behind, below)) (omega (arith, ints, here, before, below)))
    (λ above. flat r k _ _ (omega (arith, ints, here, behind, above)) (omega (arith, ints, here, before, above))))

-- ---- equal functions, and convex ones
-- equal functions are convex but for the same setup cost
pub kconvex-ext : (K : ℕ) (low cap : ℤ) (f g : ℤ → ℤ) → ((x : ℤ) → low ≤ℤ x → x ≤ℤ cap → f x ≡ g x) → IsKConvexOn K low cap f → IsKConvexOn K low cap g
kconvex-ext K low cap f g e h = from_slopes K low cap g
    (λ y r k some_r some_k from to.
    let lo = e (y -ℤ pos r) from (omega (arith, ints, to)) in
    let at = e y (omega (arith, ints, from)) (omega (arith, ints, to)) in
    let hi = e (y +ℤ pos k) (omega (arith, ints, from)) to in
    let behind : f y -ℤ f (y -ℤ pos r) ≡ g y -ℤ g (y -ℤ pos r) = omega (arith, ints, lo, at) in
    let before : pos K +ℤ f (y +ℤ pos k) -ℤ f y ≡ pos K +ℤ g (y +ℤ pos k) -ℤ g y = omega (arith, ints, at, hi) in
    omega (arith, ints, slopes K low cap f h y r k some_r some_k from to, ap (λ z. pos k *ℤ z) behind, ap (λ z. pos r *ℤ z) before))

-- a sum of convex functions is convex
pub convex-add : (low cap : ℤ) (f g : ℤ → ℤ) → IsKConvexOn 0 low cap f → IsKConvexOn 0 low cap g → IsKConvexOn 0 low cap (λ x. f x +ℤ g x)
convex-add low cap f g hf hg = kconvex-more (0 + 0) 0 low cap (λ x. f x +ℤ g x) (omega arith) (kconvex-add 0 0 low cap f g hf hg)

-- a convex function times a factor is convex
pub convex-scale : (low cap : ℤ) (c : ℕ) (f : ℤ → ℤ) → IsKConvexOn 0 low cap f → IsKConvexOn 0 low cap (λ x. pos c *ℤ f x)
convex-scale low cap c f h = kconvex-more (c * 0) 0 low cap (λ x. pos c *ℤ f x) (omega arith) (kconvex-scale 0 low cap c f h)

-- a weighted sum of convex functions is convex
pub convex-weighted : (low cap : ℤ) (ws : List ℕ) (f : ℤ → ℕ → ℤ) → ((d : ℕ) → d < length ws → IsKConvexOn 0 low cap (λ x. f x d)) → IsKConvexOn 0 low cap (λ x. weighted ws (f x))
convex-weighted low cap ws f h = kconvex-more (sum ws * 0) 0 low cap (λ x. weighted ws (f x)) (omega arith) (kconvex-weighted 0 low cap ws f h)
