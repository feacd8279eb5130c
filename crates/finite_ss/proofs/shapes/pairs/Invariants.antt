use Rattle.std.proofs.Common.{◌≡◌, drop}
use Rattle.value_cert.specs.FiniteRules.{cells_of}
use Rattle.finite_ss.proofs.shapes.pairs.Given as goal

abbrev pub invariant-loop-row : goal.invariant-loop-row
invariant-loop-row l = cells_of l.row-items l.t ≡ cells_of (drop l.row-index l.row-items) l.t
