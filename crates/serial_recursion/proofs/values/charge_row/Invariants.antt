use Rattle.std.proofs.Common.{◌≡◌, length}
use Rattle.serial_recursion.proofs.Places.{AreWritten}
use Rattle.serial_recursion.specs.Rows.{place_charge, value_at}
use Rattle.serial_recursion.proofs.values.charge_row.Given as goal

abbrev pub invariant-loop-place : goal.invariant-loop-place
invariant-loop-place l =
    AreWritten (λ k z. z ≡ place_charge l.costs l.level k) (λ k z. z ≡ value_at l.fn.charges k) l.count (length l.fn.charges) l.charges l.place
