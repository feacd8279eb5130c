-- Relative values of the average kind, in whole numbers. Place k of a table is position floor + k; an entry a there stands
-- for the relative value a / (den · W^lead · V^(k + 1)), W being the sum of the weights, V that of the demands above 0 and
-- den the denominator of the average cost.
use Rattle.std.specs.Prelude.{ℕ, zero, suc, ◌+◌, ◌-◌, ◌*◌, ◌^◌, min, ℤ, pos, ◌+ℤ◌, int_le, nat_lt, nat_le, if◌then◌else◌, ◌==◌, ◌&&◌, Bool, List, [], ◌∷◌, ◌++◌, sum, slice_index}
use Rattle.std.specs.List.{list_all, list_any, range_with_len}
use Rattle.demand_law.specs.CountedSums.{counted}
use Rattle.demand_law.specs.Sequences.{laws_from, law_of_sum}
use Rattle.decision_model.specs.declared.average.Average.{Average}
use Rattle.decision_model.specs.Average.{average_positions, average_cost_bound}
use Rattle.decision_model.specs.AverageProblem.{stock_charge}

-- a fraction of natural numbers
pub record Ratio : Type 0 where
  pub num : ℕ
  pub den : ℕ

-- the weights of the demands above 0, from demand 1 up
abbrev pub moving : List ℕ → List ℕ
moving [] = []
moving (w ∷ ws) = ws

-- the position of a place
abbrev pub at_place : Average → ℕ → ℤ
at_place item k = item.floor +ℤ pos k

-- the law of the demands until an order has come
unfoldable pub lead_demand : Average → List ℕ
lead_demand item = law_of_sum (laws_from (λ t. item.law) 1 (suc item.lead))

-- the cost of a period at a position, times W^(lead + 1)
abbrev pub stock_sum : Average → ℤ → ℕ
stock_sum item y = counted (lead_demand item) (stock_charge item y)

-- the setup cost at place k
abbrev pub limit : Average → Ratio → ℕ → ℕ
limit item g k = item.setup * g.den * sum item.law ^ item.lead * sum (moving item.law) ^ suc k

-- the entry after demand d + 1 at place k, over what place k is over: that of a place, or a given one below the floor
abbrev pub carried : ℕ → ℕ → (ℕ → ℕ) → ℕ → ℕ → ℕ
carried v below a k d = if nat_lt d k then a (k - suc d) * v ^ d else below * v ^ k

-- the same with the setup cost below the floor
abbrev pub value_after : Average → Ratio → (ℕ → ℕ) → ℕ → ℕ → ℕ
value_after item g a k d = carried (sum (moving item.law)) (item.setup * g.den * sum item.law ^ item.lead) a k d

-- what keeping place k is worth is gain - loss: the cost of the period and the entries after it
abbrev pub gain : Average → Ratio → (ℕ → ℕ) → ℕ → ℕ
gain item g a k = stock_sum item (at_place item k) * g.den * sum (moving item.law) ^ k + counted (moving item.law) (value_after item g a k)

-- .. less the average cost of the period
abbrev pub loss : Average → Ratio → ℕ → ℕ
loss item g k = g.num * sum item.law ^ suc item.lead * sum (moving item.law) ^ k

-- the cost of a period at place k is at most the average cost
abbrev pub is_cheap : Average → Ratio → ℕ → Bool
is_cheap item g k = nat_le (stock_sum item (at_place item k) * g.den) (g.num * sum item.law ^ suc item.lead)

-- ---- the solver's tables
-- the lower entries of the first places: each the lesser of keeping it and ordering
unfoldable pub lower_entries : Average → Ratio → ℕ → List ℕ
lower_entries item g zero = []
lower_entries item g (suc k) =
    lower_entries item g k ++ min (gain item g (slice_index (lower_entries item g k)) k - loss item g k) (limit item g k) ∷ []

-- the upper entries of the first places: ordering up to a position, and keeping above it
unfoldable pub upper_entries : Average → Ratio → ℤ → ℕ → List ℕ
upper_entries item g low zero = []
upper_entries item g low (suc k) =
    upper_entries item g low k ++ (if int_le (at_place item k) low then limit item g k else gain item g (slice_index (upper_entries item g low k)) k - loss item g k) ∷ []

-- keeping place k of the lower table is worth 0
abbrev pub is_zero_place : Average → Ratio → ℕ → Bool
is_zero_place item g k = gain item g (slice_index (lower_entries item g (average_positions item))) k == loss item g k

-- keeping no place of the lower table is worth less than 0, and keeping some is worth 0
unfoldable pub is_average : Average → Ratio → Bool
is_average item g =
    list_all (λ k. nat_le (loss item g k) (gain item g (slice_index (lower_entries item g (average_positions item))) k)) (range_with_len 0 (average_positions item))
    && list_any (is_zero_place item g) (range_with_len 0 (average_positions item))

-- ---- the average cost
-- the first number that passes a test, of count numbers; the one behind them where none does
unfoldable pub first_passing : (ℕ → Bool) → ℕ → ℕ → ℕ
first_passing test from zero = from
first_passing test from (suc count) = if test from then from else first_passing test (suc from) count

-- the greatest denominator of an average cost
abbrev pub greatest_den : Average → ℕ → ℕ
greatest_den item n = n * sum item.law ^ suc item.lead * sum (moving item.law) ^ (n - 1)

-- the greatest numerator with a denominator
abbrev pub greatest_num : Average → ℕ → ℕ
greatest_num item den = den * (item.setup + average_cost_bound item)

-- the first numerator with which the least worth of keeping a place is 0
abbrev pub num_for : Average → ℕ → ℕ
num_for item den = first_passing (λ num. is_average item (record { num = num; den = den })) 0 (suc (greatest_num item den))

-- the average cost: of the least denominator that has a numerator
abbrev pub average_cost_of : Average → Ratio
average_cost_of item =
    let den = first_passing (λ den. is_average item (record { num = num_for item den; den = den })) 1 (greatest_den item (average_positions item)) in
    record { num = num_for item den; den = den }
