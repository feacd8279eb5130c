-- The numbers of a trial: each is drawn from the word at its place, from 0, of the generator that the trial's number starts.
use Rattle.std.specs.Prelude.{ℕ, ◌+◌, ◌-◌, ◌*◌, ◌/◌, ◌^◌, List, map, replicate}
use Rattle.std.specs.List.{range_with_len}
use Rattle.node_state.specs.Draws.{generator_of, word_at}

-- the number at a place, from least to most
unfoldable pub number : ℕ → ℕ → ℕ → ℕ → ℕ
number trial place least most = least + word_at (generator_of trial) place * (most - least + 1) / 2 ^ 32

-- so many numbers, from a place on
unfoldable pub numbers : ℕ → ℕ → ℕ → ℕ → ℕ → List ℕ
numbers trial place count least most = map (λ k. number trial (place + k) least most) (range_with_len 0 count)

-- one number, so many times
unfoldable pub repeated : ℕ → ℕ → List ℕ
repeated count amount = replicate count amount
