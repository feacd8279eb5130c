-- Tables of a bracket of the average cost, in whole parts of one. Place k of a table is position floor + k; below the floor
-- each table has the setup cost.
use Rattle.std.specs.Prelude.{◌≡◌, ℕ, suc, ◌+◌, ◌-◌, ◌*◌, ◌/◌, ◌^◌, ◌<◌, ◌≤◌, ℤ, pos, ◌+ℤ◌, ◌*ℤ◌, ◌≤ℤ◌, ◌<ℤ◌, unsigned_abs, nat_le, if◌then◌else◌, sum}
use Rattle.std.specs.Int.{div_ceil}
use Rattle.demand_law.specs.Law.{weighted}
use Rattle.demand_law.specs.CountedSums.{counted}
use Rattle.decision_model.specs.declared.average.Average.{Average}
use Rattle.decision_model.specs.Average.{average_cost_bound}
use Rattle.decision_model.specs.Limits.{parts}
use Rattle.value_cert.specs.AverageValues.{at_place, stock_sum}

-- the setup cost
abbrev pub setup_parts : Average → ℕ
setup_parts item = item.setup * parts

-- the cost of a period at a place, rounded down
unfoldable pub low_cost : Average → ℕ → ℕ
low_cost item k = parts * stock_sum item (at_place item k) / sum item.law ^ suc item.lead

-- .. and rounded up
unfoldable pub up_cost : Average → ℕ → ℕ
up_cost item k = div_ceil (parts * stock_sum item (at_place item k)) (sum item.law ^ suc item.lead)

-- the entry that demand d leads to from place k: that of a place, or a given one below the floor
abbrev pub entry_from : {X : Type 0} → X → (ℕ → X) → ℕ → ℕ → X
entry_from below a k d = if nat_le d k then a (k - d) else below

-- no lower bound passes this number, and no upper one
abbrev pub most_bound : Average → ℕ
most_bound item = parts * (item.setup + average_cost_bound item)

-- no upper entry of n places is further from 0
abbrev pub most_over : Average → ℕ → ℕ
most_over item n = 2 * n * most_bound item * sum item.law

-- no lower entry is above the setup cost, or above what keeping its place is worth with the lower bound
pub record IsUnderTable (item : Average) (lower n : ℕ) (a : ℕ → ℕ) : Type 0 where
  pub within : (k : ℕ) → k < n → a k ≤ setup_parts item
  pub keep : (k : ℕ) → k < n → sum item.law * a k + sum item.law * lower ≤ sum item.law * low_cost item k + counted item.law (entry_from (setup_parts item) a k)

-- an upper entry is the setup cost up to low, and above it no less than what keeping its place is worth with the upper
-- bound; it is at most 0 at high
pub record IsOverTable (item : Average) (upper n : ℕ) (low high : ℤ) (a : ℕ → ℤ) : Type 0 where
  pub small : (k : ℕ) → k < n → unsigned_abs (a k) ≤ most_over item n
  pub order : (k : ℕ) → k < n → at_place item k ≤ℤ low → a k ≡ pos (setup_parts item)
  pub keep : (k : ℕ) → k < n → low <ℤ at_place item k
      → (pos (sum item.law * up_cost item k) +ℤ weighted item.law (entry_from (pos (setup_parts item)) a k)) ≤ℤ (pos (sum item.law) *ℤ a k +ℤ pos (sum item.law * upper))
  pub reached : (k : ℕ) → k < n → at_place item k ≡ high → a k ≤ℤ pos 0
