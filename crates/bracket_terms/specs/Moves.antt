-- Sums over the demands above 0 that have a weight.
use Rattle.std.specs.Prelude.{ℕ, ◌+◌, ◌*◌, List, [], ◌∷◌}
use Rattle.bracket_terms.specs.declared.moves.Move.{Move}

-- the sum over listed demands of weight times f
unfoldable pub move_sum : List Move → (ℕ → ℕ) → ℕ
move_sum [] f = 0
move_sum (move ∷ moves) f = move.weight * f move.back + move_sum moves f
