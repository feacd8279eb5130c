use Rattle.std.proofs.Common.{ℕ, ◌<◌, ◌≤◌}
use Rattle.decision_model.specs.Lots.{CanWait}
use Rattle.decision_model.proofs.lots.speculative_period.Given as goal

abbrev pub invariant-loop-period : goal.invariant-loop-period
invariant-loop-period l = (t : ℕ) → 1 ≤ t → t < l.period → CanWait l.lots t
