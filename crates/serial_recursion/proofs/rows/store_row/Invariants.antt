use Rattle.std.proofs.Common.{◌≡◌}
use Rattle.serial_recursion.proofs.Places.{AreStored}
use Rattle.serial_recursion.specs.Rows.{value_at}
use Rattle.serial_recursion.proofs.rows.store_row.Given as goal

abbrev pub invariant-loop-place : goal.invariant-loop-place
invariant-loop-place l = AreStored (λ k z. z ≡ value_at l.row k) l.start l.fn.values l.values l.place
