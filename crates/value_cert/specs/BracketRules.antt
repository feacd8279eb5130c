-- What a certificate of a bracket has to say, line by line and as a whole. Its positions go from the floor up.
use Rattle.std.specs.Prelude.{◌≡◌, ℕ, ◌+◌, ◌*◌, ◌≤◌, List, [], ◌∷◌, ◌++◌, length, map, slice_index, slice_index_or, sum, Bool, true, false, ◌&&◌, ◌==◌, if◌then◌else◌, nat_le, nat_lt, ℤ, pos, ◌+ℤ◌, ◌*ℤ◌, int_le, unsigned_abs, Option, Some, None}
use Rattle.std.specs.List.{range_with_len}
use Rattle.demand_law.specs.CountedSums.{counted}
use Rattle.demand_law.specs.Law.{weighted}
use Rattle.decision_model.specs.declared.average.Average.{Average}
use Rattle.decision_model.specs.Average.{average_positions}
use Rattle.line_text.specs.Rules.{RulesOf}
use Rattle.value_cert.specs.AverageLeast.{pair_policy, IsPair}
use Rattle.value_cert.specs.AverageRules.{is_pair}
use Rattle.value_cert.specs.AverageValues.{at_place}
use Rattle.value_cert.specs.Bracket.{under_in, over_in, span_in}
use Rattle.value_cert.specs.BracketLeast.{BracketLeast}
use Rattle.value_cert.specs.BracketValues.{setup_parts, low_cost, up_cost, entry_from, most_bound, most_over, IsUnderTable, IsOverTable}
use Rattle.value_cert.specs.Numbers.{is_number}
use Rattle.value_cert.specs.declared.bracket.BracketCert.{BracketCert}
use Rattle.value_cert.specs.declared.flat_line.FlatLine.{FlatLine}
use Rattle.value_cert.specs.declared.flat_line.FlatLine.TheVariants.{Head, Row, End}

-- ---- what the lines so far name
-- how many rows there are, both bounds, the pair, and the entries of the first places
pub record FirstCells : Type 0 where
  pub rows : ℕ
  pub lower : ℕ
  pub upper : ℕ
  pub low : ℤ
  pub high : ℤ
  pub under : List ℕ
  pub over : List ℤ

-- no line yet
abbrev pub no_cells : FirstCells
no_cells = record { rows = 0; lower = 0; upper = 0; low = pos 0; high = pos 0; under = []; over = [] }

abbrev pub named_bounds : FirstCells → ℤ → ℤ → FirstCells
named_bounds first lower upper = record first { rows = 1; lower = unsigned_abs lower; upper = unsigned_abs upper }

abbrev pub named_pair : FirstCells → ℤ → ℤ → FirstCells
named_pair first low high = record first { rows = 2; low = low; high = high }

abbrev pub named_cell : FirstCells → ℤ → ℤ → FirstCells
named_cell first under over = record first { under = first.under ++ unsigned_abs under ∷ []; over = first.over ++ over ∷ [] }

-- the first row names the bounds, the second one the pair, and each further one a position
abbrev pub named_row : FirstCells → ℤ → ℤ → ℤ → FirstCells
named_row first a b c =
    if first.rows == 0 then named_bounds first a b else if first.rows == 1 then named_pair first a b else named_cell first b c

abbrev pub named_cells : FirstCells → FlatLine → FirstCells
named_cells first (Row tag count a b c e) = named_row first a b c
named_cells first Head = first
named_cells first End = first

-- ---- rules
-- a bound is in range
abbrev pub is_bound : Average → ℤ → Bool
is_bound item number = int_le (pos 0) number && int_le number (pos (most_bound item))

-- the lower entry at the next place is from 0 to the setup cost, and at most what keeping it is worth (5)
abbrev pub is_under_entry : Average → ℕ → List ℕ → ℤ → Bool
is_under_entry item lower under entry =
    int_le (pos 0) entry && (int_le entry (pos (setup_parts item))
    && nat_le (sum item.law * unsigned_abs entry + sum item.law * lower)
    (sum item.law * low_cost item (length under) + counted item.law (entry_from (setup_parts item) (slice_index (under ++ unsigned_abs entry ∷ [])) (length under))))

-- an entry of a list of upper ones
abbrev pub over_at : List ℤ → ℕ → ℤ
over_at over k = slice_index_or over k (pos 0)

-- the upper entry is small, the setup cost up to low, and above it at least what keeping the place is worth (6)
abbrev pub is_over_entry : Average → ℕ → ℤ → List ℤ → ℤ → ℤ → Bool
is_over_entry item upper low over at entry =
    nat_le (unsigned_abs entry) (most_over item (average_positions item))
    && (if int_le at low
    then is_number (pos (setup_parts item)) entry
    else int_le (pos (sum item.law * up_cost item (length over)) +ℤ weighted item.law (entry_from (pos (setup_parts item)) (over_at (over ++ entry ∷ [])) (length over)))
    (pos (sum item.law) *ℤ entry +ℤ pos (sum item.law * upper)))

-- it is at most 0 at high (7)
abbrev pub is_low_at_high : ℤ → ℤ → ℤ → Bool
is_low_at_high high at entry = if is_number high at then int_le entry (pos 0) else true

-- the position is that of the next place of the grid (2)
abbrev pub is_next_cell : Average → FirstCells → ℤ → Bool
is_next_cell item first at = nat_lt (length first.under) (average_positions item) && is_number (at_place item (length first.under)) at

-- the least rule from 2 on that a position with its entries breaks
abbrev pub cell_rule : Average → FirstCells → ℤ → ℤ → ℤ → Option ℕ
cell_rule item first at under over =
    if is_next_cell item first at
    then (
    if is_under_entry item first.lower first.under under
    then (if is_over_entry item first.upper first.low first.over at over then (if is_low_at_high first.high at over then None else Some 7) else Some 6)
    else Some 5
    )
    else Some 2

-- both bounds are in range (3)
abbrev pub are_bounds : Average → ℤ → ℤ → Bool
are_bounds item lower upper = is_bound item lower && is_bound item upper

-- a row of this letter with so many numbers stands here (2)
abbrev pub is_row : ℕ → ℕ → ℕ → ℕ → Bool
is_row letter numbers tag count = (tag == letter) && (count == numbers)

-- the least rule from 2 on that a row breaks: the bounds come first (letter g), then the pair (s), then the positions (p)
abbrev pub row_rule : Average → FirstCells → ℕ → ℕ → ℤ → ℤ → ℤ → Option ℕ
row_rule item first tag count a b c =
    if first.rows == 0
    then (if is_row 103 2 tag count then (if are_bounds item a b then None else Some 3) else Some 2)
    else
    if first.rows == 1
    then (if is_row 115 2 tag count then (if is_pair item a b then None else Some 4) else Some 2)
    else (if is_row 112 3 tag count then cell_rule item first a b c else Some 2)

-- each position has a row (2)
abbrev pub are_cells_whole : Average → FirstCells → Bool
are_cells_whole item first = (first.rows == 2) && (length first.under == average_positions item)

-- the least rule from 2 on that a line breaks behind the lines that name these
abbrev pub bracket_rule : Average → FirstCells → FlatLine → Option ℕ
bracket_rule item first (Row tag count a b c e) = row_rule item first tag count a b c
bracket_rule item first End = if are_cells_whole item first then None else Some 2
bracket_rule item first Head = None

abbrev pub bracket_rules : Average → RulesOf FlatLine
bracket_rules item = record { Known = FirstCells; nothing = no_cells; further = named_cells; broken = bracket_rule item }

-- ---- what a certificate claims
-- it has entries for each position, its numbers are in range, its tables meet the rules, and it bounds the cost of every
-- number of periods from every start up to the cap, within the span
pub record IsBracket (item : Average) (c : BracketCert) : Type 0 where
  pub positions : map (λ cell. cell.at) c.cells ≡ map (at_place item) (range_with_len 0 (average_positions item))
  pub lower_small : c.lower ≤ most_bound item
  pub upper_small : c.upper ≤ most_bound item
  pub pair : IsPair item c.low c.high
  pub is_under : IsUnderTable item c.lower (average_positions item) (under_in c)
  pub is_over : IsOverTable item c.upper (average_positions item) c.low c.high (over_in c)
  pub least : BracketLeast item (pair_policy c.low c.high) c.lower c.upper (span_in item c)
