-- Relative values as lines in g: with a choice for each place, its limit or X, the value of place k at g is
-- (constant - slope · g) / (W^lead · V^(k + 1)).
use Rattle.std.specs.Prelude.{◌≡◌, ℕ, suc, ◌+◌, ◌-◌, ◌*◌, ◌^◌, ◌/◌, ◌<◌, ◌≤◌, if◌then◌else◌, Bool, true, false, sum, zero, nat_le, List, [], ◌∷◌, ◌++◌, slice_index}
use Rattle.decision_model.specs.Average.{average_cost_bound}
use Rattle.value_cert.specs.AverageValues.{Ratio, moving, at_place, stock_sum, carried, greatest_den}
use Rattle.decision_model.specs.declared.average.Average.{Average}
use Rattle.demand_law.specs.CountedSums.{counted}

-- the limit of place k
abbrev pub limit_constant : Average → ℕ → ℕ
limit_constant item k = item.setup * sum item.law ^ item.lead * sum (moving item.law) ^ suc k

-- X at place k, by the lines of the places below it
abbrev pub keep_constant : Average → (ℕ → ℕ) → ℕ → ℕ
keep_constant item constant k =
    stock_sum item (at_place item k) * sum (moving item.law) ^ k + counted (moving item.law) (carried (sum (moving item.law)) (item.setup * sum item.law ^ item.lead) constant k)

abbrev pub keep_slope : Average → (ℕ → ℕ) → ℕ → ℕ
keep_slope item slope k =
    sum item.law ^ suc item.lead * sum (moving item.law) ^ k + counted (moving item.law) (carried (sum (moving item.law)) 0 slope k)

-- the lines of some choices, for n places
pub record IsLines (item : Average) (n : ℕ) (limits : ℕ → Bool) (constant slope : ℕ → ℕ) : Type 0 where
  pub constant_is : (k : ℕ) → k < n → constant k ≡ (if limits k then limit_constant item k else keep_constant item constant k)
  pub slope_is : (k : ℕ) → k < n → slope k ≡ (if limits k then 0 else keep_slope item slope k)

-- each choice is one of the lesser value at g
pub record AreLeastLines (item : Average) (g : Ratio) (n : ℕ) (limits : ℕ → Bool) (constant slope : ℕ → ℕ) : Type 0 where
  pub lines : IsLines item n limits constant slope
  pub keep : (k : ℕ) → k < n → limits k ≡ false → keep_constant item constant k * g.den ≤ limit_constant item k * g.den + keep_slope item slope k * g.num
  pub limit : (k : ℕ) → k < n → limits k ≡ true → limit_constant item k * g.den + keep_slope item slope k * g.num ≤ keep_constant item constant k * g.den

-- some place has, with some choices below it, an X of at most 0 at g
pub record IsReached (item : Average) (g : Ratio) (n : ℕ) : Type 0 where
  pub limits : ℕ → Bool
  pub constant : ℕ → ℕ
  pub slope : ℕ → ℕ
  pub lines : IsLines item n limits constant slope
  pub place : ℕ
  pub within : place < n
  pub reached : keep_constant item constant place * g.den ≤ keep_slope item slope place * g.num

-- the table of lines at g
abbrev pub table_of : Ratio → (ℕ → ℕ) → (ℕ → ℕ) → ℕ → ℕ
table_of g constant slope k = g.den * constant k - g.num * slope k

-- ---- the lines by the choices of the lesser value
-- whether the limit of place k is at most its X at g
abbrev pub takes_limit : Average → Ratio → (ℕ → ℕ) → (ℕ → ℕ) → ℕ → Bool
takes_limit item g constant slope k = nat_le (limit_constant item k * g.den + keep_slope item slope k * g.num) (keep_constant item constant k * g.den)

-- lines of the first places
pub record Lines : Type 0 where
  pub constants : List ℕ
  pub slopes : List ℕ

-- those of the choices at g
unfoldable pub chosen_lines : Average → Ratio → ℕ → Lines
chosen_lines item g zero = record { constants = []; slopes = [] }
chosen_lines item g (suc k) =
    let lines = chosen_lines item g k in
    let limits = takes_limit item g (slice_index lines.constants) (slice_index lines.slopes) k in
    record {
      constants = lines.constants ++ (if limits then limit_constant item k else keep_constant item (slice_index lines.constants) k) ∷ [];
      slopes = lines.slopes ++ (if limits then 0 else keep_slope item (slice_index lines.slopes) k) ∷ [];
    }

-- ---- what each turn of the iteration keeps
-- g is above 0 below, its denominator and its size are bounded, and some X is at most 0 there
pub record IsTurn (item : Average) (n : ℕ) (g : Ratio) : Type 0 where
  pub some : 1 ≤ g.den
  pub small : g.den ≤ greatest_den item n
  pub bounded : g.num ≤ g.den * (item.setup + average_cost_bound item)
  pub reached : IsReached item g n

-- the whole part of g times the square of the greatest denominator
abbrev pub measure : Average → ℕ → Ratio → ℕ
measure item n g = g.num * (greatest_den item n * greatest_den item n) / g.den

-- half of the width number
abbrev pub half_width : Average → ℕ → ℕ
half_width item n = (item.setup + average_cost_bound item) * (greatest_den item n * greatest_den item n)
