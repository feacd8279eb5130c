-- An average cost's check answers as the rules say, a certificate that breaks none bounds every number of periods, and the solver's breaks none.
use Rattle.std.proofs.Common.{◌≡◌, ℕ, List, Option, None}
use Rattle.average_lemmas.specs.RulesKept.{average_certifies}
use Rattle.average_recursion.specs.Recursions.{average_of, KnowsPoints}
use Rattle.decision_model.specs.Average.{IsValidAverage}
use Rattle.decision_model.specs.declared.average.Average.{Average}
use Rattle.decision_model.specs.declared.instance.Instance.{Instance}
use Rattle.decision_model.specs.declared.instance.Instance.TheVariants as instance
use Rattle.value_cert.specs.AverageRules.{FirstPoints, no_points, named_points, average_rule, CertifiesAverage}
use Rattle.value_cert.specs.Kept.{BreaksNoRule}
use Rattle.value_cert.specs.declared.cert.Cert.{Cert}
use Rattle.value_cert.specs.declared.cert.Cert.TheVariants as cert
use Rattle.value_cert.specs.declared.line.CertLine.{CertLine}
use Rattle.cert_check.specs.Answers.{AnswersBehindHead}
use Rattle.cert_check.specs.AverageChecks.{KnowsAverage}
use Rattle.cert_check.proofs.KnownLines.{answers_line}
use Rattle.cert_check.specs.declared.average.AverageCheck.{AverageCheck}

pub average_answers : (item : Instance) (before : List CertLine) (line : CertLine) (old new : AverageCheck) (answer : Option ℕ)
    → KnowsAverage old item before → average_of new.points ≡ average_of old.points
    → ((first : FirstPoints) → KnowsPoints old.points first → answer ≡ average_rule (average_of old.points) first line)
    → ((first : FirstPoints) → KnowsPoints old.points first → answer ≡ None → KnowsPoints new.points (named_points first line))
    → AnswersBehindHead (KnowsAverage new) item before line answer
average_answers (instance.Average average) before line old new answer of same rule points =
    answers_line (λ average. no_points) (λ average. named_points) average_rule average (average_of old.points) (average_of new.points) (KnowsPoints old.points) (KnowsPoints new.points) before line answer of same rule points
average_answers _ before line old new answer of same rule points = absurd of

-- a certificate whose lines break no rule
pub average_cert_certifies : (item : Average) (c : Cert) → IsValidAverage item → BreaksNoRule (instance.Average item) c → CertifiesAverage item c
average_cert_certifies item (cert.Average c) valid kept = average_certifies item c valid kept
average_cert_certifies item _ valid kept = let foreign_head = kept.0 in cc
