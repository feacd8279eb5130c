-- The least value of listed positions.
use Rattle.std.specs.Prelude.{◌≡◌, ℤ, ◌≤ℤ◌, int_lt, int_le, if◌then◌else◌, List, [], Option, Some, None}
use Rattle.std.specs.List.{Contains}
use Rattle.least_values.specs.declared.sweep.Sweep.{Sweep}

-- of these positions with their values this one is listed, none has a lower value, and of those with its value none is lower
pub record IsLeastPair (pairs : List (ℤ × ℤ)) (best : ℤ × ℤ) : Type 0 where
  pub listed : Contains pairs best
  pub least : (pair : ℤ × ℤ) → Contains pairs pair → best.1 ≤ℤ pair.1
  pub first : (pair : ℤ × ℤ) → Contains pairs pair → pair.1 ≡ best.1 → best.0 ≤ℤ pair.0

-- the least of these pairs, where there is one
abbrev pub IsLeastOf : List (ℤ × ℤ) → Option (ℤ × ℤ) → Type 0
IsLeastOf pairs None = pairs ≡ []
IsLeastOf pairs (Some best) = IsLeastPair pairs best

-- the sweep has seen these pairs
abbrev pub IsSweepOf : Sweep → List (ℤ × ℤ) → Type 0
IsSweepOf sweep pairs = IsLeastOf pairs sweep.best

-- of two positions with their values the one of lower value, and of equal values the lower one
abbrev pub better : ℤ × ℤ → ℤ × ℤ → ℤ × ℤ
better p q = if int_lt p.1 q.1 then p else (if int_lt q.1 p.1 then q else (if int_le p.0 q.0 then p else q))

abbrev pub better_of : Option (ℤ × ℤ) → ℤ × ℤ → ℤ × ℤ
better_of None q = q
better_of (Some p) q = better p q
