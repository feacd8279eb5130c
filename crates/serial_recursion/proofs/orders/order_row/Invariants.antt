use Rattle.std.proofs.Common.{◌≡◌, ◌+◌, ◌-◌, length}
use Rattle.demand_law.specs.Law.{weighted}
use Rattle.serial_recursion.proofs.Places.{AreWritten}
use Rattle.serial_recursion.specs.Rows.{place_cost, row_at}
use Rattle.serial_recursion.proofs.orders.order_row.Given as goal

abbrev pub invariant-loop-place : goal.invariant-loop-place
invariant-loop-place l =
    AreWritten (λ k z. z ≡ place_cost l.frame l.weights l.unit (row_at l.values l.start) k)
    (λ k z. z ≡ weighted l.weights (λ d. row_at l.values l.start (l.frame.greatest + k - d))) l.frame.count (length l.fn.costs) l.costs l.place
