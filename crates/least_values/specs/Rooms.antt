-- A room of cells, two for each pair of a position and its value.
use Rattle.std.specs.Prelude.{◌≡◌, ℕ, ◌+◌, ◌*◌, ◌^◌, ◌<◌, ◌≤◌, ℤ, pos, ◌-ℤ◌, int_lt, int_le, ◌&&◌, if◌then◌else◌, List, length, drop, slice_index_or}
use Rattle.least_values.specs.Sweeps.{IsLeastPair}

-- the position that a cell holds: a number of 64 bits
abbrev pub kept_place : ℤ → ℤ
kept_place cell = if int_le (pos 0 -ℤ pos (2 ^ 63)) cell && int_lt cell (pos (2 ^ 63)) then cell else pos 0

-- the pair that a slot of two cells holds
abbrev pub held : List ℤ → ℕ → ℤ × ℤ
held room slot = (kept_place (slice_index_or room (2 * slot) (pos 0)), slice_index_or room (2 * slot + 1) (pos 0))

-- the first slots hold these pairs
abbrev pub Holds : List ℤ → List (ℤ × ℤ) → Type 0
Holds room pairs = (slot : ℕ) → slot < length pairs → held room slot ≡ slice_index_or pairs slot (pos 0, pos 0)

-- each slot from this one on holds the least pair of the block from there on
abbrev pub HoldsLeasts : List ℤ → List (ℤ × ℤ) → ℕ → Type 0
HoldsLeasts room block first = (slot : ℕ) → first ≤ slot → slot < length block → IsLeastPair (drop slot block) (held room slot)
