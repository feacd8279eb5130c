-- Sums over listed demands, one more at a time.
use Rattle.std.proofs.Common.{◌≡◌, ℕ, zero, suc, ◌+◌, ◌*◌, ◌<◌, ◌≤◌, List, [], ◌∷◌, ◌++◌, length, take, slice_index_or, refl, arith, add-one}
use Rattle.bracket_terms.specs.Moves.{move_sum}
use Rattle.bracket_terms.specs.declared.moves.Move.{Move}

-- one more behind
pub sum_behind : (moves : List Move) (move : Move) (f : ℕ → ℕ) → move_sum (moves ++ move ∷ []) f ≡ move_sum moves f + move.weight * f move.back
unfolding move_sum
sum_behind [] move f = omega arith
sum_behind (x ∷ xs) move f = omega (arith, sum_behind xs move f)

pub no_moves : (f : ℕ → ℕ) → move_sum [] f ≡ 0
unfolding move_sum
no_moves f = refl

-- one more of those listed
pub sum_more : (moves : List Move) (i : ℕ) (d : Move) (f : ℕ → ℕ) → i < length moves → move_sum (take (i + 1) moves) f ≡ move_sum (take i moves) f + (slice_index_or moves i d).weight * f (slice_index_or moves i d).back
unfolding move_sum
sum_more moves i d f lt = rw add-one (more moves i lt)
  where
    more : (moves : List Move) (i : ℕ) → i < length moves → move_sum (take (suc i) moves) f ≡ move_sum (take i moves) f + (slice_index_or moves i d).weight * f (slice_index_or moves i d).back
    more [] i lt = absurd (omega (arith, lt))
    more (x ∷ xs) zero lt = omega arith
    more (x ∷ xs) (suc i) lt = omega (arith, more xs i (omega (arith, lt)))

-- the first ones come to no more than all
pub sum_front : (moves : List Move) (i : ℕ) (f : ℕ → ℕ) → move_sum (take i moves) f ≤ move_sum moves f
unfolding move_sum
sum_front moves zero f = omega arith
sum_front [] (suc i) f = omega arith
sum_front (x ∷ xs) (suc i) f = omega (arith, sum_front xs i f)
