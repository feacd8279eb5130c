-- Sums over listed demands, one more at a time.
use Rattle.std.proofs.Common.{◌≡◌, ℕ, zero, suc, ◌+◌, ◌*◌, ◌^◌, ◌<◌, ◌≤◌, List, [], ◌∷◌, ◌++◌, length, take, slice_index, slice_index_or, refl, ◌∙◌, arith, add-one, pow-suc, mul-le-mul_left, ◌==◌, if◌then◌else◌}
use Rattle.std.proofs.Math.Nat.{pow-le-pow_right}
use Rattle.average_cost.specs.Moves.{move_at, moves_upto, move_value, listed_sum}
use Rattle.average_cost.specs.declared.moves.Move.{Move}

more_moves : (a : ℕ → ℕ) (k : ℕ) (moves : List Move) (i : ℕ) (d : Move) → i < length moves → listed_sum a k (take (suc i) moves) ≡ listed_sum a k (take i moves) + move_value a k (slice_index_or moves i d)
unfolding listed_sum
more_moves a k [] i d lt = absurd (omega (arith, lt))
more_moves a k (x ∷ xs) zero d lt = omega arith
more_moves a k (x ∷ xs) (suc i) d lt = omega (arith, more_moves a k xs i d (omega (arith, lt)))

-- one more listed demand
pub listed_more : (a : ℕ → ℕ) (k : ℕ) (moves : List Move) (i : ℕ) (d : Move) → i < length moves → listed_sum a k (take (i + 1) moves) ≡ listed_sum a k (take i moves) + move_value a k (slice_index_or moves i d)
listed_more a k moves i d lt = rw add-one (more_moves a k moves i d lt)

-- the first ones come to no more than all
pub listed_front : (a : ℕ → ℕ) (k : ℕ) (moves : List Move) (i : ℕ) → listed_sum a k (take i moves) ≤ listed_sum a k moves
unfolding listed_sum
listed_front a k moves zero = omega arith
listed_front a k [] (suc i) = omega arith
listed_front a k (x ∷ xs) (suc i) = omega (arith, listed_front a k xs i)

-- a weight times a power is at most the next power
pub factor_most : (w v d n : ℕ) → w ≤ v → 1 ≤ v → suc d ≤ n → w * v ^ d ≤ v ^ n
factor_most w v d n le some within = omega (arith, pow-suc v d, mul-le-mul_left (v ^ d) le, pow-le-pow_right {n = v} some within)

-- so is the next power
pub power_next : (v d n : ℕ) → 1 ≤ v → suc d ≤ n → v ^ d * v ≤ v ^ n
power_next v d n some within = omega (arith, pow-suc v d, pow-le-pow_right {n = v} some within)

-- one more demand
pub moves_more : (law : List ℕ) (v d power : ℕ) (before after : List Move) → before ≡ moves_upto law v d → power ≡ v ^ d
    → after ≡ (if slice_index law (d + 1) == 0 then before else before ++ move_at d (slice_index law (d + 1) * power) ∷ []) → after ≡ moves_upto law v (d + 1)
unfolding moves_upto
moves_more law v d power before after e f h = rw add-one (h ∙ (rw (e, f, add-one) refl))
