-- The kinds of instance as what a command is about.
use Rattle.std.proofs.Common.{◌≡◌, ℕ, List, Result, false, arith}
use Rattle.std.specs.Option.{ok_or}
use Rattle.cert_check.specs.TextChecks.{IsTextCheckOf, last_verdict}
use Rattle.cert_check.specs.declared.text_check.TextCheck.{TextCheck}
use Rattle.decision_model.specs.Kind.{kind_of}
use Rattle.decision_model.specs.Valid.{IsValid}
use Rattle.decision_model.specs.declared.instance.Instance.{Instance}
use Rattle.decision_model.specs.declared.kinds.Kind.{Kind}
use Rattle.instance_json.specs.Reads.{reads}
use Rattle.line_check.specs.Verdicts.{is_rejection}
use Rattle.report_text.specs.Reports.{report_of}
use Rattle.value_cert.specs.Breaches.{cert_rules}
use Rattle.value_cert.specs.Meaning.{Certifies, solved_cert}
use Rattle.value_cert.specs.Texts.{HasText, cert_text}
use Rattle.value_cert.specs.declared.cert.Cert.{Cert}
use Rattle.stock_cli.specs.Checks.{TextCheckOf, PassesUpTo}
use Rattle.stock_cli.specs.Subjects.{SubjectOf, IsCertificate}

-- the solver's certificate, for the kinds that are solved
abbrev pub kind_solved : Instance → Result Cert Kind
kind_solved instance = ok_or (solved_cert instance) (kind_of instance)

abbrev pub kind_subject : SubjectOf Instance Cert
kind_subject = record {
  reads = reads;
  IsValid = IsValid;
  solved = kind_solved;
  report = report_of;
  text = cert_text;
  HasText = HasText;
  rules = cert_rules;
  Certifies = Certifies;
}

-- a check that reads on stands for lines that all pass, and for less than a line behind them
pub kind_reading : (instance : Instance) (check : TextCheck) (bytes : List ℕ) → IsTextCheckOf instance check bytes → is_rejection (last_verdict check) ≡ false → PassesUpTo (cert_rules instance) bytes 128
kind_reading instance check bytes h going =
    let reading = h.stands.reading going in
    record { lines = reading.lines; pass = reading.unbroken; behind = _; text_is = reading.read.text; within = omega (arith, reading.short.short) }

-- the check of the text of a kind's certificate
abbrev pub kind_check : TextCheckOf TextCheck
kind_check = record {
  Of = Instance;
  rules = cert_rules;
  Claims = IsCertificate kind_subject;
  StandsFor = IsTextCheckOf;
  last = last_verdict;
  reading = kind_reading;
}
