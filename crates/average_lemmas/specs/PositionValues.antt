-- Relative values of positions over one common denominator: a value v stands for v / (g.den · W^lead · scale), W being
-- the sum of the weights.
use Rattle.std.specs.Prelude.{◌≡◌, ℕ, suc, ◌+◌, ◌-◌, ◌*◌, ◌^◌, ◌≤◌, ℤ, pos, ◌-ℤ◌, ◌≤ℤ◌, ◌<ℤ◌, int_lt, nat_lt, if◌then◌else◌, sum}
use Rattle.decision_model.specs.Positions.{above_zero}
use Rattle.value_cert.specs.AverageValues.{Ratio, moving, stock_sum}
use Rattle.decision_model.specs.declared.average.Average.{Average}
use Rattle.demand_law.specs.CountedSums.{counted}

-- the setup cost as a relative value
abbrev pub setup_value : Average → Ratio → ℕ → ℕ
setup_value item g scale = item.setup * g.den * sum item.law ^ item.lead * scale

-- values that no choice goes below: keeping a position, and ordering to any other
pub record IsLower (item : Average) (g : Ratio) (scale : ℕ) (r : ℤ → ℕ) : Type 0 where
  pub limit : (x : ℤ) → r x ≤ setup_value item g scale
  pub keep : (y : ℤ) → item.floor ≤ℤ y → y ≤ℤ item.cap →
      g.num * scale * sum item.law ^ suc item.lead + sum item.law * r y ≤ g.den * scale * stock_sum item y + counted item.law (λ d. r (y -ℤ pos d))

-- values that the policy of a pair reaches
pub record IsUpper (item : Average) (g : Ratio) (scale : ℕ) (low high : ℤ) (r : ℤ → ℕ) : Type 0 where
  pub order : (x : ℤ) → x ≤ℤ low → r x ≡ setup_value item g scale
  pub keep : (y : ℤ) → low <ℤ y → y ≤ℤ item.cap →
      g.num * scale * sum item.law ^ suc item.lead + sum item.law * r y ≡ g.den * scale * stock_sum item y + counted item.law (λ d. r (y -ℤ pos d))
  pub reached : r high ≡ 0

-- values that no step of the policy of a pair passes
pub record IsReached (item : Average) (g : Ratio) (scale : ℕ) (low high : ℤ) (r : ℤ → ℕ) : Type 0 where
  pub order : (x : ℤ) → x ≤ℤ low → r high + setup_value item g scale ≤ r x
  pub keep : (y : ℤ) → low <ℤ y → y ≤ℤ item.cap →
      g.den * scale * stock_sum item y + counted item.law (λ d. r (y -ℤ pos d)) ≤ g.num * scale * sum item.law ^ suc item.lead + sum item.law * r y

-- no value is above a span
abbrev pub IsSpan : Average → Ratio → ℕ → (ℤ → ℕ) → Ratio → Type 0
IsSpan item g scale r span = (x : ℤ) → span.den * r x ≤ span.num * (g.den * sum item.law ^ item.lead * scale)

-- the value of a position by a table of n places, over the denominator of the last place
abbrev pub value_of : Average → Ratio → ℕ → (ℕ → ℕ) → ℤ → ℕ
value_of item g n a x =
    if int_lt x item.floor
    then setup_value item g (sum (moving item.law) ^ n)
    else
    if nat_lt (above_zero (x -ℤ item.floor)) n
    then a (above_zero (x -ℤ item.floor)) * sum (moving item.law) ^ (n - suc (above_zero (x -ℤ item.floor)))
    else 0
