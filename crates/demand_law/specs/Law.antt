-- Demand laws. A law is the list of its weights, from demand 0 up.
use Rattle.std.specs.Prelude.{ℕ, suc, ◌+◌, ◌-◌, ◌^◌, ◌<◌, ◌≤◌, ℤ, pos, ◌+ℤ◌, ◌*ℤ◌, List, [], ◌∷◌, length, slice_index, sum, take, map}
use Rattle.std.specs.List.{range_with_len}

-- the greatest demand has a weight above 0, and the weights add up to at most 2^120
pub record IsLaw (ws : List ℕ) : Type 0 where
  pub some : 0 < length ws
  pub last : 0 < slice_index ws (length ws - 1)
  pub short : length ws ≤ 4000000001
  pub fits : sum ws ≤ 2 ^ 120

-- the greatest demand
abbrev pub greatest_of : List ℕ → ℕ
greatest_of ws = length ws - 1

-- the sum of the weights up to d
abbrev pub upto_of : List ℕ → ℕ → ℕ
upto_of ws d = sum (take (d + 1) ws)

-- the sums of the weights up to each demand
unfoldable pub running_sums : List ℕ → List ℕ
running_sums ws = map (upto_of ws) (range_with_len 0 (length ws))

-- the sum over the demands d of weight(d) times f(d)
abbrev pub weighted : List ℕ → (ℕ → ℤ) → ℤ
weighted [] f = pos 0
weighted (w ∷ ws) f = pos w *ℤ f 0 +ℤ weighted ws (λ d. f (suc d))
