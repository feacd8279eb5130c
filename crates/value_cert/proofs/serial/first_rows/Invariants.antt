use Rattle.std.proofs.Common.{◌≡◌, drop}
use Rattle.value_cert.specs.SerialRules.{rows_of}
use Rattle.value_cert.proofs.serial.first_rows.Given as goal

abbrev pub invariant-loop-period : goal.invariant-loop-period
invariant-loop-period l = rows_of l.periods 1 ≡ rows_of (drop l.period-index l.periods) 1
