use Rattle.std.proofs.Common.{◌≡◌, ℕ, ◌<◌, true}
use Rattle.serial_recursion.specs.Rows.{turns_from, value_at}
use Rattle.serial_recursion.proofs.levels.turns_at.Given as goal

abbrev pub invariant-loop-place : goal.invariant-loop-place
invariant-loop-place l = (k : ℕ) → k < l.place → turns_from (value_at l.costs) l.level k ≡ true
