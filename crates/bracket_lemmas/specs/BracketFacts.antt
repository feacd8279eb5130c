-- The facts that fix the solver's bracket.
use Rattle.std.specs.Prelude.{◌≡◌, ℕ, ◌<◌, ◌≤◌, ℤ, pos, ◌+ℤ◌, ◌≤ℤ◌}
use Rattle.decision_model.specs.declared.average.Average.{Average}
use Rattle.decision_model.specs.Average.{average_positions}
use Rattle.value_cert.specs.AverageValues.{at_place}
use Rattle.value_cert.specs.Bracket.{under_in, over_in}
use Rattle.value_cert.specs.BracketRules.{IsBracket}
use Rattle.value_cert.specs.BracketValues.{setup_parts, IsUnderTable, IsOverTable}
use Rattle.value_cert.specs.declared.bracket.BracketCert.{BracketCert}
use Rattle.bracket_lemmas.specs.BracketSolved.{under_worth}

-- the lower bound is the greatest that some list has, and the list the greatest of it
pub record IsGreatestLower (item : Average) (n lower : ℕ) (under : ℕ → ℕ) : Type 0 where
  pub table : IsUnderTable item lower n under
  pub bound : (g : ℕ) (a : ℕ → ℕ) → IsUnderTable item g n a → g ≤ lower
  pub entries : (a : ℕ → ℕ) → IsUnderTable item lower n a → (k : ℕ) → k < n → a k ≤ under k

-- high is the first position where keeping is worth least, and low the greatest one below it, or one below the floor, up to
-- which each position has the setup cost
pub record IsSolvedPair (item : Average) (n lower : ℕ) (under : ℕ → ℕ) (low high : ℤ) : Type 0 where
  pub place : ℕ
  pub within : place < n
  pub high_at : high ≡ at_place item place
  pub least : (k : ℕ) → k < n → under_worth item lower under place ≤ under_worth item lower under k
  pub first : (k : ℕ) → k < place → under_worth item lower under place < under_worth item lower under k
  pub orders : ℕ
  pub orders_within : orders ≤ place
  pub low_at : low +ℤ pos 1 ≡ at_place item orders
  pub ordered : (k : ℕ) → k < orders → under k ≡ setup_parts item
  pub no_more : orders < place → under orders ≡ setup_parts item → ⊥

-- the upper bound is the least that some list has with the pair, and the list the least of it
pub record IsLeastUpper (item : Average) (n upper : ℕ) (low high : ℤ) (over : ℕ → ℤ) : Type 0 where
  pub table : IsOverTable item upper n low high over
  pub bound : (g : ℕ) (a : ℕ → ℤ) → IsOverTable item g n low high a → upper ≤ g
  pub entries : (a : ℕ → ℤ) → IsOverTable item upper n low high a → (k : ℕ) → k < n → over k ≤ℤ a k

-- a certificate that is accepted and that the facts fix
pub record IsSolvedBracket (item : Average) (c : BracketCert) : Type 0 where
  pub accepted : IsBracket item c
  pub lower : IsGreatestLower item (average_positions item) c.lower (under_in c)
  pub pair : IsSolvedPair item (average_positions item) c.lower (under_in c) c.low c.high
  pub upper : IsLeastUpper item (average_positions item) c.upper c.low c.high (over_in c)
