-- Positions, of which a grid has those from a low end to a cap.
use Rattle.std.specs.Prelude.{ℕ, ◌*◌, ℤ, pos, negsuc, ◌+ℤ◌, ◌-ℤ◌, ◌≤ℤ◌}
use Rattle.std.specs.Int.{int_min}
use Rattle.model_terms.specs.Limits.{least_position, most_position, most_cap}

-- a position of an instance is from -1,000,000 to 1,000,000
pub record IsPosition (x : ℤ) : Type 0 where
  pub least : least_position ≤ℤ x
  pub most : x ≤ℤ most_position

-- a cap is from 0 to 1,000,000
pub record IsCap (x : ℤ) : Type 0 where
  pub least : pos 0 ≤ℤ x
  pub most : x ≤ℤ pos most_cap

-- a number, or 0 in place of one below 0
abbrev pub above_zero : ℤ → ℕ
above_zero (pos n) = n
above_zero (negsuc n) = 0

-- the lower of a start and 0, less the greatest demand of each period that has passed
abbrev pub low_after : ℤ → ℕ → ℕ → ℤ
low_after start greatest passed = int_min start (pos 0) -ℤ pos (passed * greatest)

-- how many positions there are from a low end to a cap
abbrev pub positions_from : ℤ → ℤ → ℕ
positions_from low cap = above_zero (cap -ℤ low +ℤ pos 1)
