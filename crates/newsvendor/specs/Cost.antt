-- The cost of a level.
use Rattle.std.specs.Prelude.{ℕ, ◌+◌, ◌-◌, ◌*◌, ℤ, pos, List}
use Rattle.demand_law.specs.Law.{weighted}

-- what level q costs at demand d: each unit that is left, and each that lacks
abbrev pub mismatch_cost : ℕ → ℕ → ℕ → ℕ → ℕ
mismatch_cost holding stockout q d = holding * (q - d) + stockout * (d - q)

-- the expected cost of level q under a law, times the sum of its weights
abbrev pub level_cost : ℕ → ℕ → List ℕ → ℕ → ℤ
level_cost holding stockout law q = weighted law (λ d. pos (mismatch_cost holding stockout q d))
