-- Laws of demand as text.
use Rattle.std.specs.Prelude.{ℕ, List, [], ◌++◌, codes, decimal, length, sum, slice_index, if◌then◌else◌, ◌==◌}
use Rattle.std.specs.List.{flat_map, range_with_len}

-- the line of a demand, if it has a weight
abbrev pub demand_line : ℕ → ℕ → List ℕ
demand_line demand weight = if weight == 0 then [] else decimal demand ++ codes " " ++ decimal weight ++ codes "\n"

-- a line for each demand with a weight, from the lowest up
abbrev pub demand_lines : List ℕ → List ℕ
demand_lines law = flat_map (λ demand. demand_line demand (slice_index law demand)) (range_with_len 0 (length law))

-- the line of the sum of the weights
abbrev pub total_line : ℕ → List ℕ
total_line total = codes "total " ++ decimal total ++ codes "\n"

-- the lines of the demands, and that of the sum
abbrev pub law_text : List ℕ → List ℕ
law_text law = demand_lines law ++ total_line (sum law)
