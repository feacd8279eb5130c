use Rattle.std.proofs.Common.{List, ◌≡◌, sym, ◌∙◌, subst}
use Rattle.decision_model.specs.declared.instance.Instance.TheVariants as instance
use Rattle.decision_model.specs.declared.serial.Serial.{Serial}
use Rattle.serial_lemmas.specs.PeriodsLeast.{serial_certifies}
use Rattle.serial_lemmas.specs.SolvedKept.{solved_breaks_nothing}
use Rattle.serial_lemmas.specs.SolvedTexts.{solved_serial_text}
use Rattle.value_cert.specs.Kept.{BreaksNoRule}
use Rattle.value_cert.specs.SerialRules.{IsLeastPolicy, solved_serial}
use Rattle.value_cert.specs.Texts.{HasText}
use Rattle.value_cert.specs.declared.cert.Cert.TheVariants as cert
use Rattle.value_cert.specs.declared.serial.SerialCert.{SerialCert}
use Rattle.value_cert.specs.declared.serial.SerialPeriod.{SerialPeriod}
use Rattle.serial_echelon.proofs.solve.solve_serial.Goals as goal

-- the certificate with these periods
with_periods : Serial → List SerialPeriod → SerialCert
with_periods serial periods = record { discount_num = serial.discount_num; discount_den = serial.discount_den; periods = periods }

pub returns-in-Ok-clause-least : goal.returns-in-Ok-clause-least
unfolding with_periods
returns-in-Ok-clause-least c =
    let serial = c.args.serial.now in
    let readable = c.requires.regular.readable in
    let P : List SerialPeriod → Type 0 = λ periods. IsLeastPolicy serial (with_periods serial periods) in
    subst P (sym (c.new.ensures ∙ c.in-Ok.ensures)) (serial_certifies serial readable (solved_serial serial) (solved_breaks_nothing serial readable))

pub returns-in-Ok-clause-accepted : goal.returns-in-Ok-clause-accepted
unfolding with_periods
returns-in-Ok-clause-accepted c =
    let serial = c.args.serial.now in
    let P : List SerialPeriod → Type 0 = λ periods. BreaksNoRule (instance.Serial serial) (cert.Serial (with_periods serial periods)) in
    subst P (sym (c.new.ensures ∙ c.in-Ok.ensures)) (solved_breaks_nothing serial c.requires.regular.readable)

pub returns-in-Ok-clause-text : goal.returns-in-Ok-clause-text
unfolding with_periods
returns-in-Ok-clause-text c =
    let serial = c.args.serial.now in
    let P : List SerialPeriod → Type 0 = λ periods. HasText (cert.Serial (with_periods serial periods)) in
    subst P (sym (c.new.ensures ∙ c.in-Ok.ensures)) (solved_serial_text serial c.requires)
