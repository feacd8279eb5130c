-- The demand that a word of 32 bits picks.
use Rattle.std.specs.Prelude.{ℕ, suc, ◌-◌, ◌*◌, ◌/◌, ◌^◌, List, [], ◌∷◌, sum, cond, nat_lt}

-- the first place up to which the weights add up to more than v
abbrev pub first_above : List ℕ → ℕ → ℕ
first_above [] v = 0
first_above (w ∷ ws) v = cond (nat_lt v w) 0 (suc (first_above ws (v - w)))

-- the words from 0 to 2^32 stand for the weights in order
abbrev pub picked : List ℕ → ℕ → ℕ
picked ws word = first_above ws (word * sum ws / 2 ^ 32)
