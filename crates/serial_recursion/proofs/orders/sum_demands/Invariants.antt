use Rattle.std.proofs.Common.{◌≡◌, ℕ, ◌<◌, ◌+◌, ◌-◌, length, take}
use Rattle.demand_law.specs.Law.{weighted}
use Rattle.serial_recursion.specs.Rows.{value_at}
use Rattle.serial_recursion.proofs.orders.sum_demands.Given as goal

abbrev pub invariant-loop-demand : goal.invariant-loop-demand
invariant-loop-demand l =
    (length l.sums ≡ length l.fn.sums)
    × ((k : ℕ) → k < l.count → value_at l.sums k ≡ weighted (take l.demand l.weights) (λ d. value_at l.values (l.top + k - d)))
