-- The entries of the first positions, as the cells hold them.
use Rattle.std.specs.Prelude.{◌≡◌, ℕ, suc, ◌+◌, ◌-◌, ◌*◌, ◌^◌, ◌<◌, ◌≤◌, ℤ, pos, unsigned_abs, nat_lt, if◌then◌else◌, List, [], ◌∷◌, slice_index, slice_index_or, sum}
use Rattle.decision_model.specs.declared.average.Average.{Average}
use Rattle.decision_model.specs.Average.{average_positions, average_cost_bound}
use Rattle.value_cert.specs.AverageValues.{Ratio, moving}

-- what a cell holds
abbrev pub entry_at : List ℤ → ℕ → ℕ
entry_at cells place = unsigned_abs (slice_index_or cells place (pos 0))

-- what a demand of back + 1 leads to from a place, by what the places below it hold and a number below the floor
abbrev pub after : (ℕ → ℕ) → ℕ → ℕ → ℕ → ℕ
after b below k back = if nat_lt back k then b (k - suc back) else below

-- the sum over the listed demands d of weight(d) times f(d)
abbrev pub listed_count : List ℕ → List ℕ → (ℕ → ℕ) → ℕ
listed_count weights [] f = 0
listed_count weights (d ∷ ds) f = slice_index weights d * f d + listed_count weights ds f

-- the entries of the first places, over the denominator of the place before the last one; that of the last place isn't
-- needed again
abbrev pub AreEntries : Average → ℕ → (ℕ → ℕ) → (ℕ → ℕ) → Type 0
AreEntries average count b a =
    (j : ℕ) → j < count → suc j < average_positions average → b j ≡ a j * sum (moving average.law) ^ (average_positions average - suc (suc j))

-- the most that an entry can be, over the denominator of the last place
unfoldable pub entry_most : Average → Ratio → ℕ → ℕ
entry_most average g k =
    average.setup * g.den * sum average.law ^ average.lead * sum (moving average.law) ^ average_positions average
    + suc k * ((average_cost_bound average - 1) * sum average.law ^ suc average.lead * g.den) * sum (moving average.law) ^ (average_positions average - 1)

-- no entry of the first places is more
abbrev pub AreSmallEntries : Average → Ratio → ℕ → (ℕ → ℕ) → Type 0
AreSmallEntries average g count b =
    (j : ℕ) → j < count → suc j < average_positions average → b j * sum (moving average.law) ≤ entry_most average g j
