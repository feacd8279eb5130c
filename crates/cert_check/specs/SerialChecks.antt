-- What a check of a serial system knows of the lines so far.
use Rattle.std.specs.Prelude.{List}
use Rattle.decision_model.specs.declared.instance.Instance.{Instance}
use Rattle.decision_model.specs.declared.instance.Instance.TheVariants.{Serial}
use Rattle.serial_recursion.specs.Recursions.{serial_of, KnowsRows}
use Rattle.value_cert.specs.SerialRules.{no_rows, named_rows, serial_rule}
use Rattle.value_cert.specs.declared.line.CertLine.{CertLine}
use Rattle.cert_check.specs.KnownLines.{KnowsLines}
use Rattle.cert_check.specs.declared.serial.SerialCheck.{SerialCheck}

-- the check is of this instance, and knows the levels and values that the lines name
abbrev pub KnowsSerial : SerialCheck → Instance → List CertLine → Type 0
KnowsSerial check (Serial serial) lines = KnowsLines (λ serial. no_rows) (λ serial. named_rows) serial_rule serial (serial_of check.recursion) (KnowsRows check.recursion) lines
KnowsSerial check _ lines = ⊥
