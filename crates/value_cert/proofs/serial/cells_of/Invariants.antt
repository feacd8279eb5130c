use Rattle.std.proofs.Common.{◌≡◌, ◌-◌, drop}
use Rattle.value_cert.specs.SerialRules.{row_cells}
use Rattle.value_cert.proofs.serial.cells_of.Given as goal

abbrev pub invariant-loop-row : goal.invariant-loop-row
invariant-loop-row l = row_cells l.rows (l.echelon - 1) ≡ row_cells (drop l.row-index l.rows) (l.echelon - 1)
