use Rattle.std.proofs.Common.{◌≡◌, ℕ, ◌<◌, pos, ◌-ℤ◌}
use Rattle.value_cert.specs.FiniteValues.{end_value}
use Rattle.finite_recursion.specs.Rows.{value_at}
use Rattle.finite_recursion.proofs.ends.end_row.Given as goal

abbrev pub invariant-loop-place : goal.invariant-loop-place
invariant-loop-place l = (k : ℕ) → k < l.place → value_at l.values k ≡ end_value l.finite (l.finite.cap -ℤ pos k)
