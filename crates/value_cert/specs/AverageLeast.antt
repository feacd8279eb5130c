-- What least average cost means, over any number of periods and from any start.
use Rattle.std.specs.Prelude.{◌≡◌, ℕ, ◌+◌, ◌*◌, ◌^◌, ◌<◌, ◌≤◌, ℤ, pos, ◌+ℤ◌, ◌-ℤ◌, ◌*ℤ◌, ◌≤ℤ◌, ◌<ℤ◌, int_le, if◌then◌else◌, [], ◌∷◌, sum}
use Rattle.decision_model.specs.declared.average.Average.{Average}
use Rattle.decision_model.specs.AverageProblem.{average_problem}
use Rattle.decision_model.specs.Policies.{Policy, expected, IsAllowed}
use Rattle.value_cert.specs.AverageValues.{Ratio, at_place, limit, gain, loss}

-- (s, S): at a position of at most low, up to high; else nothing
abbrev pub pair_choice : ℤ → ℤ → ℤ → ℤ
pair_choice low high x = if int_le x low then high else x

-- the policy of a pair, from a position on
abbrev pub pair_policy : ℤ → ℤ → ℤ → Policy ℤ
pair_policy low high x [] = pair_choice low high x
pair_policy low high x (d ∷ ds) = pair_policy low high (pair_choice low high x -ℤ pos d) ds

-- (r, Q): at a position of at most the reorder point, up to it and one lot; else nothing
abbrev pub lot_choice : ℤ → ℕ → ℤ → ℤ
lot_choice reorder lot x = if int_le x reorder then reorder +ℤ pos lot else x

-- the policy of a reorder point and a lot, from a position on
abbrev pub lot_policy : ℤ → ℕ → ℤ → Policy ℤ
lot_policy reorder lot x [] = lot_choice reorder lot x
lot_policy reorder lot x (d ∷ ds) = lot_policy reorder lot (lot_choice reorder lot x -ℤ pos d) ds

-- cost / weight is at most n · g + span
abbrev pub IsAtMost : ℕ → Ratio → Ratio → ℕ → ℤ → Type 0
IsAtMost n g span weight cost = (pos (g.den * span.den) *ℤ cost) ≤ℤ pos ((n * g.num * span.den + span.num * g.den) * weight)

-- cost / weight is at least n · g - span
abbrev pub IsAtLeast : ℕ → Ratio → Ratio → ℕ → ℤ → Type 0
IsAtLeast n g span weight cost = pos (n * g.num * span.den * weight) ≤ℤ (pos (g.den * span.den) *ℤ cost +ℤ pos (span.num * g.den * weight))

-- for every number of periods and every start up to the cap the policy of the start is allowed and its expected cost is
-- within the span of n · g, and no allowed policy, however it looks at the demands so far, has an expected cost of less
-- than n · g - span
pub record AverageLeast (item : Average) (policy : ℤ → Policy ℤ) (g span : Ratio) : Type 0 where
  pub g_some : 1 ≤ g.den
  pub span_some : 1 ≤ span.den
  pub allowed : (n : ℕ) (start : ℤ) → 1 ≤ n → start ≤ℤ item.cap → IsAllowed (average_problem item n start) (policy start)
  pub most : (n : ℕ) (start : ℤ) → 1 ≤ n → start ≤ℤ item.cap → IsAtMost n g span (sum item.law ^ (n + item.lead)) (expected (average_problem item n start) (policy start))
  pub enough : (n : ℕ) (start : ℤ) → 1 ≤ n → start ≤ℤ item.cap → IsAtLeast n g span (sum item.law ^ (n + item.lead)) (expected (average_problem item n start) (policy start))
  pub least : (n : ℕ) (start : ℤ) (other : Policy ℤ) → 1 ≤ n → start ≤ℤ item.cap → IsAllowed (average_problem item n start) other → IsAtLeast n g span (sum item.law ^ (n + item.lead)) (expected (average_problem item n start) other)

-- ---- what the tables say
-- a pair of the grid, or one place below it
pub record IsPair (item : Average) (low high : ℤ) : Type 0 where
  pub above : item.floor ≤ℤ (low +ℤ pos 1)
  pub ordered : low <ℤ high
  pub within : high ≤ℤ item.cap

-- no lower entry is above what keeping its place is worth, or above the setup cost
pub record IsLowerTable (item : Average) (g : Ratio) (n : ℕ) (a : ℕ → ℕ) : Type 0 where
  pub keep : (k : ℕ) → k < n → a k + loss item g k ≤ gain item g a k
  pub within : (k : ℕ) → k < n → a k ≤ limit item g k

-- an upper entry is the setup cost up to low, and above it what keeping its place is worth; it is 0 at high
pub record IsUpperTable (item : Average) (g : Ratio) (low high : ℤ) (n : ℕ) (a : ℕ → ℕ) : Type 0 where
  pub order : (k : ℕ) → k < n → at_place item k ≤ℤ low → a k ≡ limit item g k
  pub keep : (k : ℕ) → k < n → low <ℤ at_place item k → a k + loss item g k ≡ gain item g a k
  pub reached : (k : ℕ) → k < n → at_place item k ≡ high → a k ≡ 0

-- an average cost, a pair and both tables meet the equations
pub record MeetsEquations (item : Average) (g : Ratio) (low high : ℤ) (n : ℕ) (lower upper : ℕ → ℕ) : Type 0 where
  pub g_some : 1 ≤ g.den
  pub pair : IsPair item low high
  pub is_lower : IsLowerTable item g n lower
  pub is_upper : IsUpperTable item g low high n upper
