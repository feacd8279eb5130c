-- Sums over the demands above 0 that have a weight.
use Rattle.std.specs.Prelude.{ℕ, zero, suc, ◌+◌, ◌-◌, ◌*◌, ◌^◌, nat_lt, ◌==◌, if◌then◌else◌, List, [], ◌∷◌, ◌++◌, length, slice_index}
use Rattle.average_cost.specs.declared.moves.Move.{Move}

abbrev pub move_at : ℕ → ℕ → Move
move_at back factor = record { back = back; factor = factor }

-- the first count demands above 0 that have a weight, each with its weight times a power
unfoldable pub moves_upto : List ℕ → ℕ → ℕ → List Move
moves_upto law v zero = []
moves_upto law v (suc d) =
    if slice_index law (suc d) == 0 then moves_upto law v d else moves_upto law v d ++ move_at d (slice_index law (suc d) * v ^ d) ∷ []

-- what a demand adds at place k: nothing where it leads below the floor
abbrev pub move_value : (ℕ → ℕ) → ℕ → Move → ℕ
move_value a k move = if nat_lt move.back k then move.factor * a (k - suc move.back) else 0

-- the sum over listed demands of their factors times the entries that they lead to
unfoldable pub listed_sum : (ℕ → ℕ) → ℕ → List Move → ℕ
listed_sum a k [] = 0
listed_sum a k (move ∷ moves) = move_value a k move + listed_sum a k moves

-- what keeping the place behind listed entries comes to
abbrev pub keep_of : List Move → ℕ → ℕ → ℕ → List ℕ → ℕ
keep_of moves first below power entries = below * power + first * power + listed_sum (slice_index entries) (length entries) moves
