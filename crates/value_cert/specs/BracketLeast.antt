-- What a bracket of the average cost means, over any number of periods and from any start.
use Rattle.std.specs.Prelude.{◌≡◌, ℕ, ◌+◌, ◌*◌, ◌^◌, ◌<◌, ◌≤◌, ℤ, pos, ◌+ℤ◌, ◌-ℤ◌, ◌*ℤ◌, ◌≤ℤ◌, sum}
use Rattle.decision_model.specs.declared.average.Average.{Average}
use Rattle.decision_model.specs.AverageProblem.{average_problem}
use Rattle.decision_model.specs.Policies.{Policy, expected, IsAllowed}
use Rattle.decision_model.specs.Limits.{parts}

-- for every number of periods and every start up to the cap the policy of the start is allowed and costs at most the upper
-- bound a period and the span, and no allowed policy, however it looks at the demands so far, costs less than the lower
-- bound a period, less the span; all in parts
pub record BracketLeast (item : Average) (policy : ℤ → Policy ℤ) (lower upper span : ℕ) : Type 0 where
  pub allowed : (n : ℕ) (start : ℤ) → 1 ≤ n → start ≤ℤ item.cap → IsAllowed (average_problem item n start) (policy start)
  pub most : (n : ℕ) (start : ℤ) → 1 ≤ n → start ≤ℤ item.cap
      → (pos parts *ℤ expected (average_problem item n start) (policy start)) ≤ℤ pos ((n * upper + span) * sum item.law ^ (n + item.lead))
  pub least : (n : ℕ) (start : ℤ) (other : Policy ℤ) → 1 ≤ n → start ≤ℤ item.cap → IsAllowed (average_problem item n start) other
      → pos (n * lower * sum item.law ^ (n + item.lead)) ≤ℤ (pos parts *ℤ expected (average_problem item n start) other +ℤ pos (span * sum item.law ^ (n + item.lead)))

-- a span of n upper entries: from the least of 0 and all of them, to the greatest of the setup cost and all of them
pub record IsSpanOf (n setup : ℕ) (a : ℕ → ℤ) (span : ℕ) : Type 0 where
  pub most : ℕ
  pub depth : ℕ
  pub whole : span ≡ most + depth
  pub setup_within : setup ≤ most
  pub most_within : (k : ℕ) → k < n → a k ≤ℤ pos most
  pub depth_within : (k : ℕ) → k < n → (pos 0 -ℤ pos depth) ≤ℤ a k
