use Rattle.std.proofs.Common.{◌≡◌, drop}
use Rattle.value_cert.specs.SerialRules.{cell_value}
use Rattle.value_cert.proofs.serial.value_at.Given as goal

abbrev pub invariant-loop-cell : goal.invariant-loop-cell
invariant-loop-cell l = cell_value l.cells l.position ≡ cell_value (drop l.cell-index l.cells) l.position
