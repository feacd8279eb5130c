-- How far the solver has gone.
use Rattle.std.specs.Prelude.{ℕ, ◌-◌, ◌+ℤ◌, pos}
use Rattle.decision_model.specs.Serial.{IsReadableSerial, serial_low}
use Rattle.decision_model.specs.declared.serial.Serial.{Serial}
use Rattle.serial_lemmas.specs.SolvedFronts.{AreSolved}
use Rattle.serial_recursion.specs.Recursions.{serial_of, KnowsRows}
use Rattle.serial_recursion.specs.Rows.{period_of}
use Rattle.serial_recursion.specs.declared.recursion.Recursion.{Recursion}
use Rattle.value_cert.specs.SerialRules.{FirstRows, solved_cell}
use Rattle.value_cert.specs.declared.serial.SerialCell.{SerialCell}

-- the recursion has gone through rows with the solver's levels and values
pub record HasSolved (recursion : Recursion) : Type 0 where
  pub readable : IsReadableSerial (serial_of recursion)
  pub first : FirstRows
  pub are : AreSolved (serial_of recursion) readable first
  pub knows : KnowsRows recursion first

-- the solver's cell at a place of the last of some echelons, in the last of some periods
abbrev pub cell_at : Serial → ℕ → ℕ → ℕ → SerialCell
cell_at serial periods echelons place =
    solved_cell serial (periods - 1) (period_of serial periods) (echelons - 1) (serial_low serial (period_of serial periods) +ℤ pos place)
