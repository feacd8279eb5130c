use Rattle.std.proofs.Common.{◌≡◌, ℕ, ◌<◌, pos}
use Rattle.serial_recursion.specs.Rows.{value_at}
use Rattle.serial_recursion.proofs.rows.clear.Given as goal

abbrev pub invariant-loop-place : goal.invariant-loop-place
invariant-loop-place l = (k : ℕ) → k < l.place → value_at l.row k ≡ pos 0
