-- How much room the recursion works in.
use Rattle.std.specs.Prelude.{ℕ, ◌+◌, ◌*◌, length}
use Rattle.decision_model.specs.declared.serial.Serial.{Serial}
use Rattle.decision_model.specs.Serial.{serial_positions}

-- a row of values for each echelon, a row of costs of orders and a row of charges
abbrev pub cells_needed : Serial → ℕ
cells_needed serial = (length serial.holding + 2) * serial_positions serial
