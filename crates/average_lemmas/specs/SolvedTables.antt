-- Tables of relative values by place, as the solver makes them.
use Rattle.std.specs.Prelude.{◌≡◌, ℕ, suc, ◌+◌, ◌-◌, ◌*◌, ◌^◌, min, ◌<◌, ◌≤◌, sum}
use Rattle.decision_model.specs.declared.average.Average.{Average}
use Rattle.value_cert.specs.AverageValues.{Ratio, moving, at_place, stock_sum, limit, gain, loss}
use Rattle.average_lemmas.specs.PositionValues.{setup_value}

-- each entry is the lesser of X and limit, no X is below 0, and one is 0
pub record IsSolvedTable (item : Average) (g : Ratio) (n : ℕ) (a : ℕ → ℕ) : Type 0 where
  pub none_below : (k : ℕ) → k < n → loss item g k ≤ gain item g a k
  pub entry : (k : ℕ) → k < n → a k ≡ min (gain item g a k - loss item g k) (limit item g k)
  pub zero_at : ℕ
  pub zero_within : zero_at < n
  pub zero : gain item g a zero_at ≡ loss item g zero_at

-- a span is at least the setup cost and each relative value of both tables
pub record IsSpanOf (item : Average) (g : Ratio) (n : ℕ) (lower upper : ℕ → ℕ) (span : Ratio) : Type 0 where
  pub span_some : 1 ≤ span.den
  -- over the denominator of the last place
  pub greatest : ℕ
  pub setup : setup_value item g (sum (moving item.law) ^ n) ≤ greatest
  pub lower_within : (k r : ℕ) → k + suc r ≡ n → lower k * sum (moving item.law) ^ r ≤ greatest
  pub upper_within : (k r : ℕ) → k + suc r ≡ n → upper k * sum (moving item.law) ^ r ≤ greatest
  pub within : span.den * greatest ≤ span.num * (g.den * sum item.law ^ item.lead * sum (moving item.law) ^ n)

-- the first place whose cost is at most g
pub record IsFirstCheap (item : Average) (g : Ratio) (i : ℕ) : Type 0 where
  pub cheap : stock_sum item (at_place item i) * g.den ≤ g.num * sum item.law ^ suc item.lead
  pub first : (k : ℕ) → k < i → g.num * sum item.law ^ suc item.lead < stock_sum item (at_place item k) * g.den

-- the first place whose X is 0
pub record IsFirstZero (item : Average) (g : Ratio) (n : ℕ) (a : ℕ → ℕ) (j : ℕ) : Type 0 where
  pub within : j < n
  pub zero : gain item g a j ≡ loss item g j
  pub first : (k : ℕ) → k < j → loss item g k < gain item g a k

-- the values of the policy that takes the limit below place i and X from it on
pub record IsPolicyTable (item : Average) (g : Ratio) (i n : ℕ) (a : ℕ → ℕ) : Type 0 where
  pub below : (k : ℕ) → k < n → k < i → a k ≡ limit item g k
  pub from : (k : ℕ) → k < n → i ≤ k → a k ≡ gain item g a k - loss item g k
