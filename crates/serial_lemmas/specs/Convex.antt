-- Laws of discrete convexity.
use Rattle.std.proofs.Common.{◌≡◌, ℕ, zero, suc, ◌-◌, ◌<◌, ℤ, pos, negsuc, ◌+ℤ◌, ◌-ℤ◌, ◌*ℤ◌, ◌≤ℤ◌, ◌<ℤ◌, List, length, refl, sym, ap, arith, subst}
use Rattle.std.proofs.lemmas.Int.{ints, by_lt_z}
use Rattle.std.specs.Int.{int_max, int_min}
use Rattle.std.specs.Int.Signed.{≤ℤ_refl}
use borrow.Author.Differences.{up, down}
use Rattle.demand_law.specs.Law.{weighted}
use Rattle.demand_law.specs.Integers as Z
use Rattle.demand_law.specs.WeightedSums.{weighted-add, weighted-mono}
use Rattle.decision_model.specs.Positions.{above_zero}
use Rattle.serial_lemmas.specs.Levels.{IsConvexOn, IsTurn}
use Rattle.serial_lemmas.specs.Links.{max_left, max_right, min_left, min_right}

-- sums are convex
pub convex-add : (low cap : ℤ) (f g : ℤ → ℤ) → IsConvexOn low cap f → IsConvexOn low cap g → IsConvexOn low cap (λ x. f x +ℤ g x)
convex-add low cap f g hf hg x from to = omega (arith, ints, hf x from to, hg x from to)

-- so are multiples
pub convex-scale : (low cap : ℤ) (c : ℕ) (f : ℤ → ℤ) → IsConvexOn low cap f → IsConvexOn low cap (λ x. pos c *ℤ f x)
convex-scale low cap c f h x from to =
    let scaled = Z.weight_mono c _ _ (h x from to) in
    omega (arith, ints, scaled, Z.mul_add (pos c) (f (x +ℤ pos 1)) (f (x +ℤ pos 1)), Z.mul_add (pos c) (f x) (f (x +ℤ pos 2)))

-- and weighted sums
pub convex-weighted : (low cap : ℤ) (ws : List ℕ) (f : ℤ → ℕ → ℤ) → ((d : ℕ) → d < length ws → IsConvexOn low cap (λ x. f x d)) → IsConvexOn low cap (λ x. weighted ws (f x))
convex-weighted low cap ws f h x from to =
    let each = weighted-mono ws (λ d. f (x +ℤ pos 1) d +ℤ f (x +ℤ pos 1) d) (λ d. f x d +ℤ f (x +ℤ pos 2) d) (λ d lt. h d lt x from to) in
    omega (arith, ints, each, weighted-add ws (f (x +ℤ pos 1)) (f (x +ℤ pos 1)), weighted-add ws (f x) (f (x +ℤ pos 2)))

-- what is convex to a lower end is so after a demand
pub convex-shift : (low lower cap : ℤ) (d : ℕ) (f : ℤ → ℤ) → lower ≤ℤ (low -ℤ pos d) → IsConvexOn lower cap f → IsConvexOn low cap (λ x. f (x -ℤ pos d))
convex-shift low lower cap d f le h x from to =
    let here = h (x -ℤ pos d) (omega (arith, ints, le, from)) (omega (arith, ints, to)) in
    let one : (x -ℤ pos d) +ℤ pos 1 ≡ (x +ℤ pos 1) -ℤ pos d = omega (arith, ints) in
    let two : (x -ℤ pos d) +ℤ pos 2 ≡ (x +ℤ pos 2) -ℤ pos d = omega (arith, ints) in
    omega (arith, ints, here, ap f one, ap f two)

-- a line, with either sign
pub convex-line : (low cap : ℤ) (c : ℤ) → IsConvexOn low cap (λ x. c *ℤ x)
convex-line low cap c x from to =
    omega (arith, ints, Z.mul_add c x (pos 1), Z.mul_add c x (pos 2), Z.mul_add c (pos 1) (pos 1))

-- less a line
pub convex-minus_line : (low cap : ℤ) (f : ℤ → ℤ) (c : ℤ) → IsConvexOn low cap f → IsConvexOn low cap (λ x. f x -ℤ c *ℤ x)
convex-minus_line low cap f c h x from to =
    omega (arith, ints, h x from to, Z.mul_add c x (pos 1), Z.mul_add c x (pos 2), Z.mul_add c (pos 1) (pos 1))

-- less a number
pub convex-minus_constant : (low cap : ℤ) (f : ℤ → ℤ) (c : ℤ) → IsConvexOn low cap f → IsConvexOn low cap (λ x. f x -ℤ c)
convex-minus_constant low cap f c h x from to = omega (arith, ints, h x from to)

-- a number is convex
pub convex-constant : (low cap : ℤ) (c : ℤ) → IsConvexOn low cap (λ x. c)
convex-constant low cap c x from to = ≤ℤ_refl (c +ℤ c)

-- what is above 0, by a difference
pub above_zero_parts : (z : ℤ) → above_zero z ≡ up z - down z
above_zero_parts (pos n) = omega arith
above_zero_parts (negsuc n) = omega arith

-- what lacks of a demand
pub convex-lacking : (low cap : ℤ) (d : ℕ) → IsConvexOn low cap (λ x. pos (above_zero (pos d -ℤ x)))
convex-lacking low cap d x from to =
    omega (arith, ints, above_zero_parts (pos d -ℤ x), above_zero_parts (pos d -ℤ (x +ℤ pos 1)), above_zero_parts (pos d -ℤ (x +ℤ pos 2)))

module _ (C : ℤ → ℤ) (S low cap : ℤ) where
  -- ---- a convex function falls to a minimiser, and rises from it on
  module _ (convex : IsConvexOn low cap C) (is_least : (y : ℤ) → low ≤ℤ y → y ≤ℤ cap → C S ≤ℤ C y) (to_cap : S ≤ℤ cap) (from_low : low ≤ℤ S) where
    -- steps below a level of least cost fall
    falls_before : (n : ℕ) (y : ℤ) → low ≤ℤ y → y +ℤ pos (suc n) ≡ S → C (y +ℤ pos 1) ≤ℤ C y
    falls_before zero y from e = subst (λ (z : ℤ). C z ≤ℤ C y) (sym e) (is_least y from (omega (arith, ints, e, to_cap)))
    falls_before (suc n) y from e =
        let later = falls_before n (y +ℤ pos 1) (omega (arith, ints, from)) (omega (arith, ints, e)) in
        let two : (y +ℤ pos 1) +ℤ pos 1 ≡ y +ℤ pos 2 = omega (arith, ints) in
        omega (arith, ints, ap C two, later, convex y from (omega (arith, ints, e, to_cap)))

    -- steps from it on rise
    rises_after : (n : ℕ) (y : ℤ) → y ≡ S +ℤ pos n → (y +ℤ pos 1) ≤ℤ cap → C y ≤ℤ C (y +ℤ pos 1)
    rises_after zero y e to =
        let same : y ≡ S = omega (arith, ints, e) in
        omega (arith, ints, ap C same, is_least (y +ℤ pos 1) (omega (arith, ints, e, from_low)) to)
    rises_after (suc n) y e to =
        let before : ℤ = S +ℤ pos n in
        let earlier = rises_after n before refl (omega (arith, ints, e, to)) in
        let one : before +ℤ pos 1 ≡ y = omega (arith, ints, e) in
        let two : before +ℤ pos 2 ≡ y +ℤ pos 1 = omega (arith, ints, e) in
        omega (arith, ints, ap C one, ap C two, earlier, convex before (omega (arith, ints, from_low)) (omega (arith, ints, e, to)))

    -- a convex cost turns where it is least
    pub turn_convex : IsTurn C S low cap
    turn_convex = record { from_low = from_low; to_cap = to_cap; falls = falls; rises = rises }
      where
        falls : (y : ℤ) → low ≤ℤ y → y <ℤ S → C (y +ℤ pos 1) ≤ℤ C y
        falls y from lt = falls_before (up (S -ℤ y) - down (S -ℤ y) - 1) y from (omega (arith, ints, lt))

        rises : (y : ℤ) → S ≤ℤ y → y <ℤ cap → C y ≤ℤ C (y +ℤ pos 1)
        rises y from lt = rises_after (up (y -ℤ S) - down (y -ℤ S)) y (omega (arith, ints, from)) (omega (arith, ints, lt))

  -- ---- the cost of going up to a level, and that of being kept below it
  module _ (convex : IsConvexOn low cap C) (rule : IsTurn C S low cap) where
    -- what is paid up to the level is convex
    pub convex-max : IsConvexOn low cap (λ x. C (int_max x S))
    convex-max x from to =
        by_lt_z x S
        (λ below. by_lt_z (x +ℤ pos 1) S
        (λ far.
        let zero = ap C (max_right x S (omega (arith, ints, below))) in
        let one = ap C (max_right (x +ℤ pos 1) S (omega (arith, ints, far))) in
        let two = ap C (max_right (x +ℤ pos 2) S (omega (arith, ints, far))) in
        omega (arith, ints, zero, one, two))
        (λ near.
        let same : x +ℤ pos 1 ≡ S = omega (arith, ints, below, near) in
        let next : S +ℤ pos 1 ≡ x +ℤ pos 2 = omega (arith, ints, same) in
        let zero = ap C (max_right x S (omega (arith, ints, below))) in
        let one = ap C (max_right (x +ℤ pos 1) S (omega (arith, ints, same))) in
        let two = ap C (max_left (x +ℤ pos 2) S (omega (arith, ints, same))) in
        let rise = rule.rises S (≤ℤ_refl S) (omega (arith, ints, same, to)) in
        omega (arith, ints, zero, one, two, rise, ap C next)))
        (λ above.
        let zero = ap C (max_left x S above) in
        let one = ap C (max_left (x +ℤ pos 1) S (omega (arith, ints, above))) in
        let two = ap C (max_left (x +ℤ pos 2) S (omega (arith, ints, above))) in
        omega (arith, ints, zero, one, two, convex x from to))

    -- and what keeps an echelon below it
    pub convex-min : IsConvexOn low cap (λ x. C (int_min x S))
    convex-min x from to =
        by_lt_z x S
        (λ below. by_lt_z (x +ℤ pos 1) S
        (λ far.
        let zero = ap C (min_left x S (omega (arith, ints, below))) in
        let one = ap C (min_left (x +ℤ pos 1) S (omega (arith, ints, far))) in
        let two = ap C (min_left (x +ℤ pos 2) S (omega (arith, ints, far))) in
        omega (arith, ints, zero, one, two, convex x from to))
        (λ near.
        let same : x +ℤ pos 1 ≡ S = omega (arith, ints, below, near) in
        let zero = ap C (min_left x S (omega (arith, ints, below))) in
        let one = ap C (min_right (x +ℤ pos 1) S (omega (arith, ints, same))) in
        let two = ap C (min_right (x +ℤ pos 2) S (omega (arith, ints, same))) in
        let fall = rule.falls x from below in
        omega (arith, ints, zero, one, two, fall, ap C same)))
        (λ above.
        let zero = ap C (min_right x S above) in
        let one = ap C (min_right (x +ℤ pos 1) S (omega (arith, ints, above))) in
        let two = ap C (min_right (x +ℤ pos 2) S (omega (arith, ints, above))) in
        omega (arith, ints, zero, one, two))
