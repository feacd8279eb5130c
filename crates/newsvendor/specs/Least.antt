-- The least level of least cost, for any cost of levels.
use Rattle.std.specs.Prelude.{ℕ, zero, suc, ◌<◌, ℤ, ◌≤ℤ◌, ◌<ℤ◌, int_lt, if◌then◌else◌}

-- no level costs less, and each lower one costs more
pub record IsFirstLeast (cost : ℕ → ℤ) (q : ℕ) : Type 0 where
  pub least : (k : ℕ) → cost q ≤ℤ cost k
  pub first : (k : ℕ) → k < q → cost q <ℤ cost k

-- the first of the levels up to n at which the cost is least
unfoldable pub first_least_upto : (ℕ → ℤ) → ℕ → ℕ
first_least_upto cost zero = 0
first_least_upto cost (suc n) = let q = first_least_upto cost n in if int_lt (cost (suc n)) (cost q) then suc n else q
