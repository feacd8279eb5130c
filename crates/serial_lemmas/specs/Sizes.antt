-- Sizes of sums, products and weighted sums, and the recurrence of the bounds.
use Rattle.std.proofs.Common.{◌≡◌, ℕ, zero, suc, ◌+◌, ◌*◌, ◌^◌, ◌<◌, ◌≤◌, ℤ, pos, negsuc, ◌+ℤ◌, ◌-ℤ◌, ◌*ℤ◌, List, [], ◌∷◌, length, sum, take, slice_index_or, refl, sym, ◌∙◌, ap, arith, subst, pow-suc, mul-le-mul_left, mul_assoc, mul_comm}
use Rattle.std.proofs.lemmas.Int.{ints, unsigned_abs-mul}
use Rattle.std.proofs.lemmas.Nat.{mul-le}
use Rattle.std.proofs.Math.Nat.{one-le-pow, pow-zero, le_of_mul-le-mul_left}
use Rattle.std.proofs.lemmas.List.Sums.{sum_by-take-le}
use Rattle.std.proofs.lemmas.List.{take_all}
use Rattle.std.specs.Prelude.{unsigned_abs}
use Rattle.demand_law.specs.Law.{weighted}
use Rattle.demand_law.specs.Integers as Z
use Rattle.demand_law.specs.WeightedSums.{weighted-scale, weighted_most, weighted_least, sum-cons}
use Rattle.serial_lemmas.specs.Convex.{above_zero_parts}
use Rattle.decision_model.specs.Positions.{above_zero}

-- a sum is at most as large as both together
pub size_add : (a b : ℤ) (m n : ℕ) → unsigned_abs a ≤ m → unsigned_abs b ≤ n → unsigned_abs (a +ℤ b) ≤ m + n
size_add a b m n h k = omega (arith, ints, h, k)

-- so is a difference
pub size_sub : (a b : ℤ) (m n : ℕ) → unsigned_abs a ≤ m → unsigned_abs b ≤ n → unsigned_abs (a -ℤ b) ≤ m + n
size_sub a b m n h k = omega (arith, ints, h, k)

-- a multiple
pub size_mul : (c : ℕ) (a : ℤ) (m : ℕ) → unsigned_abs a ≤ m → unsigned_abs (pos c *ℤ a) ≤ c * m
size_mul c a m h = omega (arith, unsigned_abs-mul (pos c) a, mul-le-mul_left c h)

-- a weighted sum
pub size_weighted : (ws : List ℕ) (f : ℕ → ℤ) (m : ℕ) → ((d : ℕ) → d < length ws → unsigned_abs (f d) ≤ m) → unsigned_abs (weighted ws f) ≤ sum ws * m
size_weighted ws f m h =
    let high = weighted_most ws f (pos m) (λ d lt. omega (arith, ints, h d lt)) in
    let low = weighted_least ws f (pos 0 -ℤ pos m) (λ d lt. omega (arith, ints, h d lt)) in
    let zero = Z.mul_add (pos (sum ws)) (pos 0 -ℤ pos m) (pos m) in
    let none : (pos 0 -ℤ pos m) +ℤ pos m ≡ pos 0 = omega (arith, ints) in
    omega (arith, ints, high, low, zero, ap (λ z. pos (sum ws) *ℤ z) none, Z.mul_zero (pos (sum ws)))

-- what an echelon's position costs: a rate of holding on it, and a rate of at least that on what lacks
pub size_own : (rate lost reach d : ℕ) (x : ℤ) → rate ≤ lost → unsigned_abs (x -ℤ pos d) ≤ reach → unsigned_abs (pos rate *ℤ (x -ℤ pos d) +ℤ pos lost *ℤ pos (above_zero (pos d -ℤ x))) ≤ lost * reach
size_own rate lost reach d x le h = by (x -ℤ pos d) refl
  where
    by : (z : ℤ) → x -ℤ pos d ≡ z → unsigned_abs (pos rate *ℤ (x -ℤ pos d) +ℤ pos lost *ℤ pos (above_zero (pos d -ℤ x))) ≤ lost * reach
    by (pos k) e =
        let none : above_zero (pos d -ℤ x) ≡ 0 = omega (arith, ints, e, above_zero_parts (pos d -ℤ x)) in
        let far : k ≤ reach = omega (arith, ints, e, h) in
        let same : pos rate *ℤ (x -ℤ pos d) +ℤ pos lost *ℤ pos (above_zero (pos d -ℤ x)) ≡ pos (rate * k) = ap (λ z. pos rate *ℤ z +ℤ pos lost *ℤ pos (above_zero (pos d -ℤ x))) e ∙ ap (λ n. pos rate *ℤ pos k +ℤ pos lost *ℤ pos n) none ∙ omega (arith, ints) in
        subst (λ (z : ℤ). unsigned_abs z ≤ lost * reach) (sym same) (mul-le rate k lost reach le far)
    by (negsuc k) e =
        let lacks : above_zero (pos d -ℤ x) ≡ suc k = omega (arith, ints, e, above_zero_parts (pos d -ℤ x)) in
        let far : suc k ≤ reach = omega (arith, ints, e, h) in
        let more = mul-le rate (suc k) lost (suc k) le (omega arith) in
        let same : pos rate *ℤ (x -ℤ pos d) +ℤ pos lost *ℤ pos (above_zero (pos d -ℤ x)) ≡ pos (lost * suc k) -ℤ pos (rate * suc k) = ap (λ z. pos rate *ℤ z +ℤ pos lost *ℤ pos (above_zero (pos d -ℤ x))) e ∙ ap (λ n. pos rate *ℤ negsuc k +ℤ pos lost *ℤ pos n) lacks ∙ omega (arith, ints) in
        let within : unsigned_abs (pos (lost * suc k) -ℤ pos (rate * suc k)) ≤ lost * reach = omega (arith, ints, more, mul-le lost (suc k) lost reach (omega arith) far) in
        subst (λ (z : ℤ). unsigned_abs z ≤ lost * reach) (sym same) within

-- two neighbours of a list are at most its sum
pub neighbours_most : (xs : List ℕ) (i : ℕ) → slice_index_or xs i 0 + slice_index_or xs (suc i) 0 ≤ sum xs
neighbours_most [] i = omega arith
neighbours_most (x ∷ xs) zero = first xs
  where
    first : (xs : List ℕ) → x + slice_index_or xs 0 0 ≤ sum (x ∷ xs)
    first [] = omega (arith, sum-cons x [])
    first (y ∷ xs) = omega (arith, sum-cons x (y ∷ xs), sum-cons y xs)
neighbours_most (x ∷ xs) (suc i) = omega (arith, sum-cons x xs, neighbours_most xs i)

-- an entry of a list is at most its sum
pub entry_most : (xs : List ℕ) (i : ℕ) → slice_index_or xs i 0 ≤ sum xs
entry_most xs i = omega (arith, neighbours_most xs i)

-- ---- the recurrence
power_grows : (n j : ℕ) → n ^ suc j + 1 ≤ suc n ^ suc j
power_grows n zero = omega (arith, pow-suc n 0, pow-suc (suc n) 0, pow-zero n, pow-zero (suc n), ap (λ k. k * n) (pow-zero n), ap (λ k. k * suc n) (pow-zero (suc n)))
power_grows n (suc j) =
    let before = power_grows n j in
    let step = mul-le (n ^ suc j + 1) (suc n) (suc n ^ suc j) (suc n) before (omega arith) in
    omega (arith, step, pow-suc n (suc j), pow-suc (suc n) (suc j))

-- the factor of the cost of a period
abbrev pub factor : ℕ → ℕ → ℕ
factor n i = 2 ^ i * n ^ suc i

-- factors grow by the period
pub factor_first : (n : ℕ) → 1 + factor n 0 ≤ factor (suc n) 0
factor_first n = omega (arith, pow-suc n 0, pow-suc (suc n) 0, pow-zero n, pow-zero (suc n), pow-zero 2, ap (λ k. k * n ^ 1) (pow-zero 2), ap (λ k. k * suc n ^ 1) (pow-zero 2), ap (λ k. k * n) (pow-zero n), ap (λ k. k * suc n) (pow-zero (suc n)))

-- and by what the echelon before is charged for
pub factor_next : (n i : ℕ) → 1 + factor n (suc i) + 2 * factor n i ≤ factor (suc n) (suc i)
factor_next n i =
    let two = 2 ^ suc i in
    let q = n ^ suc i in
    let q' = suc n ^ suc i in
    let some : 1 ≤ two = one-le-pow (suc i) 2 (omega arith) in
    let a : 2 * factor n i ≡ two * q = omega (arith, ap (λ k. k * q) (pow-suc 2 i)) in
    let b : factor n (suc i) ≡ two * q * n = ap (λ k. two * k) (pow-suc n (suc i)) ∙ sym (mul_assoc two q n) in
    let c : factor (suc n) (suc i) ≡ two * q' * suc n = ap (λ k. two * k) (pow-suc (suc n) (suc i)) ∙ sym (mul_assoc two q' (suc n)) in
    let grown : two * q + two ≤ two * q' = omega (arith, mul-le-mul_left two (power_grows n i)) in
    let whole = mul-le (two * q + two) (suc n) (two * q') (suc n) grown (omega arith) in
    let ones = mul-le 1 1 two (suc n) some (omega arith) in
    omega (arith, a, b, c, whole, ones)

-- ---- weighted sums of the first demands
weighted_scaled : (w b : ℕ) (ws : List ℕ) (f : ℕ → ℤ) → ((d : ℕ) → d < length ws → w * unsigned_abs (f d) ≤ b) → w * unsigned_abs (weighted ws f) ≤ sum ws * b
weighted_scaled w b [] f h = omega arith
weighted_scaled w b (x ∷ ws) f h =
    let first = mul-le-mul_left x (h 0 (omega arith)) in
    let rest = weighted_scaled w b ws (λ d. f (suc d)) (λ d lt. h (suc d) (omega (arith, lt))) in
    let both = size_add (pos x *ℤ f 0) (weighted ws (λ d. f (suc d))) (x * unsigned_abs (f 0)) (unsigned_abs (weighted ws (λ d. f (suc d)))) (size_mul x (f 0) (unsigned_abs (f 0)) (omega arith)) (omega arith) in
    let scaled = mul-le-mul_left w both in
    omega (arith, first, rest, scaled, turned w x (unsigned_abs (f 0)), ap (λ k. k * b) (sum-cons x ws))
  where
    turned : (a b c : ℕ) → a * (b * c) ≡ b * (a * c)
    turned a b c = sym (mul_assoc a b c) ∙ ap (λ k. k * c) (mul_comm a b) ∙ mul_assoc b a c

-- weights that are all 0
weighted_none : (ws : List ℕ) (f : ℕ → ℤ) → sum ws ≡ 0 → weighted ws f ≡ pos 0
weighted_none [] f e = refl
weighted_none (x ∷ ws) f e =
    let none : x ≡ 0 = omega (arith, sum-cons x ws, e) in
    let rest = weighted_none ws (λ d. f (suc d)) (omega (arith, sum-cons x ws, e)) in
    omega (arith, ints, rest, ap (λ k. pos k *ℤ f 0) none)

-- where each value times the whole sum of weights is within a bound, so is the sum over the first demands
pub weighted_within : (b : ℕ) (ws : List ℕ) (f : ℕ → ℤ) (i : ℕ) → ((d : ℕ) → d < length ws → sum ws * unsigned_abs (f d) ≤ b) → unsigned_abs (weighted (take i ws) f) ≤ b
weighted_within b ws f i h = by (sum ws) refl
  where
    front : sum (take i ws) ≤ sum ws
    front = sum_by-take-le (λ x. x) ws i

    few : (d : ℕ) → d < length (take i ws) → sum ws * unsigned_abs (f d) ≤ b
    few d lt = h d (grind (arith, Rattle.std.proofs.lemmas.List.length-take))

    by : (w : ℕ) → sum ws ≡ w → unsigned_abs (weighted (take i ws) f) ≤ b
    by zero e = omega (arith, ints, weighted_none (take i ws) f (omega (arith, front, e)))
    by (suc w) e =
        let scaled = weighted_scaled (sum ws) b (take i ws) f few in
        let whole = mul-le (sum (take i ws)) b (sum ws) b front (omega arith) in
        le_of_mul-le-mul_left {k = sum ws} (omega (arith, scaled, whole)) (omega (arith, e))

-- .. with a factor
pub weighted_times : (c b : ℕ) (ws : List ℕ) (f : ℕ → ℤ) → ((d : ℕ) → d < length ws → c * (sum ws * unsigned_abs (f d)) ≤ b) → unsigned_abs (pos c *ℤ weighted ws f) ≤ b
weighted_times c b ws f h =
    subst (λ (vs : List ℕ). unsigned_abs (pos c *ℤ weighted vs f) ≤ b) (take_all (length ws) ws (omega arith))
    (subst (λ (z : ℤ). unsigned_abs z ≤ b) (weighted-scale (pos c) (take (length ws) ws) f)
    (weighted_within b ws (λ d. pos c *ℤ f d) (length ws) (λ d lt. omega (arith, h d lt, turned (sum ws) c (unsigned_abs (f d)), ap (λ k. sum ws * k) (unsigned_abs-mul (pos c) (f d))))))
  where
    turned : (a b c : ℕ) → a * (b * c) ≡ b * (a * c)
    turned a b c = sym (mul_assoc a b c) ∙ ap (λ k. k * c) (mul_comm a b) ∙ mul_assoc b a c
