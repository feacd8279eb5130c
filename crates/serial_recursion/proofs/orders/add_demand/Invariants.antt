use Rattle.std.proofs.Common.{◌≡◌, pos, ◌+ℤ◌, ◌*ℤ◌, length}
use Rattle.serial_recursion.proofs.Places.{AreWritten}
use Rattle.serial_recursion.specs.Rows.{value_at, row_at}
use Rattle.serial_recursion.proofs.orders.add_demand.Given as goal

abbrev pub invariant-loop-place : goal.invariant-loop-place
invariant-loop-place l = AreWritten (λ k z. z ≡ value_at l.fn.sums k +ℤ pos l.weight *ℤ row_at l.values l.from k) (λ k z. z ≡ value_at l.fn.sums k) l.count (length l.fn.sums) l.sums l.place
