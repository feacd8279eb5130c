-- Ranges of cost rates, periods and discounts.
use Rattle.std.specs.Prelude.{ℕ, ◌≤◌}
use Rattle.model_terms.specs.Limits.{most_rate, most_periods, most_discount}

-- a cost rate is from 0 to 1,000,000
abbrev pub IsRate : ℕ → Type 0
IsRate rate = rate ≤ most_rate

-- a horizon has from 1 to 104 periods
pub record IsHorizon (periods : ℕ) : Type 0 where
  pub least : 1 ≤ periods
  pub most : periods ≤ most_periods

-- a discount num/den, in whole numbers from 1 to 1,000, is at most 1
pub record IsDiscount (num den : ℕ) : Type 0 where
  pub least : 1 ≤ num
  pub proper : num ≤ den
  pub most : den ≤ most_discount
