-- Lists of echelon stocks that never fall, and the orders that they allow.
use Rattle.std.proofs.Common.{◌≡◌, ℕ, suc, ◌+◌, ◌-◌, ℤ, pos, ◌-ℤ◌, ◌≤ℤ◌, IsTrue, ◌&&◌, List, [], ◌∷◌, length, slice_index_or, All, refl, arith, subst}
use Rattle.std.specs.Prelude.{int_le}
use Rattle.std.specs.Int.Signed.{≤ℤ_refl}
use Rattle.std.specs.List.{AllAdjacentBelow}
use Rattle.std.proofs.lemmas.Bool.{and_parts, and_from}
use Rattle.std.proofs.lemmas.Int.{ints}
use Rattle.std.proofs.lemmas.List.Elements.{All-cons, All-nil}
use Rattle.demand_law.specs.Integers.{le_trans}
use Rattle.decision_model.specs.PositionTests.{le_test, le_known}
use Rattle.decision_model.specs.SerialProblem.{limit, are_ordered, are_allowed, after_demand}

-- the first stock is from the low end
pub ordered_low : (low cap : ℤ) (xs : List ℤ) → IsTrue (are_ordered low cap xs) → low ≤ℤ limit cap xs
ordered_low low cap [] on = le_known low cap on
ordered_low low cap (x ∷ xs) on = le_known low x (and_parts (int_le low x) (are_ordered x cap xs) on).0

-- .. to the cap
pub ordered_cap : (low cap : ℤ) (xs : List ℤ) → IsTrue (are_ordered low cap xs) → limit cap xs ≤ℤ cap
ordered_cap low cap [] on = ≤ℤ_refl cap
ordered_cap low cap (x ∷ xs) on =
    let parts = and_parts (int_le low x) (are_ordered x cap xs) on in
    le_trans (limit cap (x ∷ xs)) (limit cap xs) cap (ordered_low x cap xs parts.1) (ordered_cap x cap xs parts.1)

-- stocks from a low end are from a lower one
pub ordered_lower : (low lower cap : ℤ) (xs : List ℤ) → lower ≤ℤ low → IsTrue (are_ordered low cap xs) → IsTrue (are_ordered lower cap xs)
ordered_lower low lower cap [] h on = le_test lower cap (le_trans lower low cap h (le_known low cap on))
ordered_lower low lower cap (x ∷ xs) h on =
    let parts = and_parts (int_le low x) (are_ordered x cap xs) on in
    and_from (int_le lower x) (are_ordered x cap xs) (le_test lower x (le_trans lower low x h (le_known low x parts.0))) parts.1

-- .. and from a higher one that the first isn't below
pub ordered_higher : (low higher cap : ℤ) (xs : List ℤ) → higher ≤ℤ limit cap xs → IsTrue (are_ordered low cap xs) → IsTrue (are_ordered higher cap xs)
ordered_higher low higher cap [] h on = le_test higher cap h
ordered_higher low higher cap (x ∷ xs) h on =
    and_from (int_le higher x) (are_ordered x cap xs) (le_test higher x h) (and_parts (int_le low x) (are_ordered x cap xs) on).1

-- each stock is from the low end to the cap
pub ordered_within : (low cap : ℤ) (xs : List ℤ) → IsTrue (are_ordered low cap xs) → All (λ x. low ≤ℤ x) xs × All (λ x. x ≤ℤ cap) xs
ordered_within low cap [] on = (All-nil (λ x. low ≤ℤ x), All-nil (λ x. x ≤ℤ cap))
ordered_within low cap (x ∷ xs) on =
    let parts = and_parts (int_le low x) (are_ordered x cap xs) on in
    let others = ordered_within low cap xs (ordered_lower x low cap xs (le_known low x parts.0) parts.1) in
    let below = le_trans x (limit cap xs) cap (ordered_low x cap xs parts.1) (ordered_cap x cap xs parts.1) in
    (All-cons (λ z. low ≤ℤ z) x xs (le_known low x parts.0) others.0, All-cons (λ z. z ≤ℤ cap) x xs below others.1)

-- a list that never falls, from its first stock up to its last
pub ordered_from : (low cap x : ℤ) (xs : List ℤ) → low ≤ℤ x → AllAdjacentBelow (λ a b. a ≤ℤ b) (x ∷ xs) (length (x ∷ xs)) → slice_index_or (x ∷ xs) (length (x ∷ xs) - 1) (pos 0) ≤ℤ cap → IsTrue (are_ordered low cap (x ∷ xs))
ordered_from low cap x [] from rises last =
    let here : x ≤ℤ cap = last in
    and_from (int_le low x) (int_le x cap) (le_test low x from) (le_test x cap here)
ordered_from low cap x (next ∷ xs) from rises last =
    let step : x ≤ℤ next = rises 0 (pos 0) (omega arith) in
    let shift : (k : ℕ) → suc k + 1 ≡ suc (k + 1) = λ k. omega arith in
    let others : AllAdjacentBelow (λ a b. a ≤ℤ b) (next ∷ xs) (length (next ∷ xs)) = λ k d lt. subst (λ (j : ℕ). slice_index_or (next ∷ xs) k d ≤ℤ slice_index_or (x ∷ next ∷ xs) j d) (shift k) (rises (suc k) d (omega arith)) in
    let place : length (x ∷ next ∷ xs) - 1 ≡ suc (length (next ∷ xs) - 1) = omega arith in
    let end : slice_index_or (next ∷ xs) (length (next ∷ xs) - 1) (pos 0) ≤ℤ cap = subst (λ (j : ℕ). slice_index_or (x ∷ next ∷ xs) j (pos 0) ≤ℤ cap) place last in
    and_from (int_le low x) (are_ordered x cap (next ∷ xs)) (le_test low x from) (ordered_from x cap next xs step others end)

-- ---- orders
-- an allowed order of the first echelon, and of the others
pub allowed_first : (cap x y : ℤ) (xs ys : List ℤ) → IsTrue (are_allowed cap (x ∷ xs) (y ∷ ys)) → (x ≤ℤ y) × (y ≤ℤ limit cap xs)
allowed_first cap x y xs ys ok =
    let first = and_parts (int_le x y) (int_le y (limit cap xs) && are_allowed cap xs ys) ok in
    let second = and_parts (int_le y (limit cap xs)) (are_allowed cap xs ys) first.1 in
    (le_known x y first.0, le_known y (limit cap xs) second.0)

pub allowed_others : (cap x y : ℤ) (xs ys : List ℤ) → IsTrue (are_allowed cap (x ∷ xs) (y ∷ ys)) → IsTrue (are_allowed cap xs ys)
allowed_others cap x y xs ys ok =
    (and_parts (int_le y (limit cap xs)) (are_allowed cap xs ys) (and_parts (int_le x y) (int_le y (limit cap xs) && are_allowed cap xs ys) ok).1).1

-- .. and they are allowed together
pub allowed_both : (cap x y : ℤ) (xs ys : List ℤ) → x ≤ℤ y → y ≤ℤ limit cap xs → IsTrue (are_allowed cap xs ys) → IsTrue (are_allowed cap (x ∷ xs) (y ∷ ys))
allowed_both cap x y xs ys above below others =
    and_from (int_le x y) (int_le y (limit cap xs) && are_allowed cap xs ys) (le_test x y above)
    (and_from (int_le y (limit cap xs)) (are_allowed cap xs ys) (le_test y (limit cap xs) below) others)

-- there are as many stocks after orders as before
pub allowed_length : (cap : ℤ) (xs ys : List ℤ) → IsTrue (are_allowed cap xs ys) → length xs ≡ length ys
allowed_length cap [] [] ok = refl
allowed_length cap [] (y ∷ ys) ok = cc
allowed_length cap (x ∷ xs) [] ok = cc
allowed_length cap (x ∷ xs) (y ∷ ys) ok = omega (arith, allowed_length cap xs ys (allowed_others cap x y xs ys ok))

-- to order nothing is allowed
pub stay_allowed : (low cap : ℤ) (xs : List ℤ) → IsTrue (are_ordered low cap xs) → IsTrue (are_allowed cap xs xs)
stay_allowed low cap [] on = refl
stay_allowed low cap (x ∷ xs) on =
    let here = and_parts (int_le low x) (are_ordered x cap xs) on in
    allowed_both cap x x xs xs (≤ℤ_refl x) (ordered_low x cap xs here.1) (stay_allowed x cap xs here.1)

-- stocks after allowed orders never fall either
pub allowed_ordered : (low cap : ℤ) (xs ys : List ℤ) → IsTrue (are_ordered low cap xs) → IsTrue (are_allowed cap xs ys) → IsTrue (are_ordered low cap ys)
allowed_ordered low cap [] [] on ok = on
allowed_ordered low cap [] (y ∷ ys) on ok = cc
allowed_ordered low cap (x ∷ xs) [] on ok = cc
allowed_ordered low cap (x ∷ xs) (y ∷ ys) on ok =
    let here = and_parts (int_le low x) (are_ordered x cap xs) on in
    let first = allowed_first cap x y xs ys ok in
    and_from (int_le low y) (are_ordered y cap ys) (le_test low y (le_trans low x y (le_known low x here.0) first.0))
    (allowed_ordered y cap xs ys (ordered_higher x y cap xs first.1 here.1) (allowed_others cap x y xs ys ok))

-- nor do they after a demand
pub ordered_after : (low cap : ℤ) (d : ℕ) (ys : List ℤ) → IsTrue (are_ordered low cap ys) → IsTrue (are_ordered (low -ℤ pos d) cap (after_demand ys d))
ordered_after low cap d [] on = le_test (low -ℤ pos d) cap (omega (arith, ints, le_known low cap on))
ordered_after low cap d (y ∷ ys) on =
    let here = and_parts (int_le low y) (are_ordered y cap ys) on in
    let first = le_known low y here.0 in
    and_from (int_le (low -ℤ pos d) (y -ℤ pos d)) (are_ordered (y -ℤ pos d) cap (after_demand ys d))
    (le_test (low -ℤ pos d) (y -ℤ pos d) (omega (arith, ints, first))) (ordered_after y cap d ys here.1)
