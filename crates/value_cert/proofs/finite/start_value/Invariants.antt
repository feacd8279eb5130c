use Rattle.std.proofs.Common.{◌≡◌, drop}
use Rattle.value_cert.specs.FiniteRules.{cells_of}
use Rattle.value_cert.proofs.finite.start_value.Given as goal

abbrev pub invariant-loop-row : goal.invariant-loop-row
invariant-loop-row l = cells_of l.rows 1 ≡ cells_of (drop l.row-index l.rows) 1
