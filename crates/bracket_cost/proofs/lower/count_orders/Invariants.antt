use Rattle.std.proofs.Common.{◌≡◌, ℕ, ◌+◌, ◌==◌, not, slice_index}
use Rattle.value_cert.specs.AverageValues.{first_passing}
use Rattle.bracket_cost.proofs.lower.count_orders.Given as goal

abbrev pub invariant-loop-k : goal.invariant-loop-k
invariant-loop-k l = (r : ℕ) → l.k + r ≡ l.high → first_passing (λ j. not (slice_index l.entries j == l.setup)) 0 l.high ≡ first_passing (λ j. not (slice_index l.entries j == l.setup)) l.k r
