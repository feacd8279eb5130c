-- A finite horizon's check answers as the rules say, a certificate that breaks none names a policy than which none costs less and its cost, and the solver's breaks none.
use Rattle.std.proofs.Common.{◌≡◌, ℕ, List, Option, None}
use Rattle.decision_model.specs.Finite.{IsValidFinite}
use Rattle.decision_model.specs.declared.finite.Finite.{Finite}
use Rattle.decision_model.specs.declared.instance.Instance.{Instance}
use Rattle.decision_model.specs.declared.instance.Instance.TheVariants as instance
use Rattle.finite_recursion.specs.Recursions.{finite_of, KnowsRows}
use Rattle.finite_lemmas.specs.RowsLeast.{rows_certify}
use Rattle.value_cert.specs.FiniteRules.{FirstRows, no_rows, named_values, finite_rule, CertifiesPolicy}
use Rattle.value_cert.specs.Kept.{BreaksNoRule}
use Rattle.value_cert.specs.declared.cert.Cert.{Cert}
use Rattle.value_cert.specs.declared.cert.Cert.TheVariants as cert
use Rattle.value_cert.specs.declared.line.CertLine.{CertLine}
use Rattle.cert_check.specs.Answers.{AnswersBehindHead}
use Rattle.cert_check.specs.FiniteChecks.{KnowsFinite}
use Rattle.cert_check.proofs.KnownLines.{answers_line}
use Rattle.cert_check.specs.declared.finite.FiniteCheck.{FiniteCheck}

pub finite_answers : (item : Instance) (before : List CertLine) (line : CertLine) (old new : FiniteCheck) (answer : Option ℕ)
    → KnowsFinite old item before → finite_of new.recursion ≡ finite_of old.recursion
    → ((first : FirstRows) → KnowsRows old.recursion first → answer ≡ finite_rule (finite_of old.recursion) first line)
    → ((first : FirstRows) → KnowsRows old.recursion first → answer ≡ None → KnowsRows new.recursion (named_values (finite_of old.recursion) first line))
    → AnswersBehindHead (KnowsFinite new) item before line answer
finite_answers (instance.Finite finite) before line old new answer of same rule rows =
    answers_line no_rows named_values finite_rule finite (finite_of old.recursion) (finite_of new.recursion) (KnowsRows old.recursion) (KnowsRows new.recursion) before line answer of same rule rows
finite_answers _ before line old new answer of same rule rows = absurd of

-- a certificate whose lines break no rule
pub finite_certifies : (item : Finite) (c : Cert) → IsValidFinite item → BreaksNoRule (instance.Finite item) c → CertifiesPolicy item c
finite_certifies item (cert.Finite c) valid kept = rows_certify item valid.regular.readable c kept
finite_certifies item _ valid kept = let foreign_head = kept.0 in cc
