-- What a check of an average cost knows of the lines so far.
use Rattle.std.specs.Prelude.{List}
use Rattle.decision_model.specs.declared.instance.Instance.{Instance}
use Rattle.decision_model.specs.declared.instance.Instance.TheVariants.{Average}
use Rattle.average_recursion.specs.Recursions.{average_of, KnowsPoints}
use Rattle.value_cert.specs.AverageRules.{no_points, named_points, average_rule}
use Rattle.value_cert.specs.declared.line.CertLine.{CertLine}
use Rattle.cert_check.specs.KnownLines.{KnowsLines}
use Rattle.cert_check.specs.declared.average.AverageCheck.{AverageCheck}

-- the check is of this instance, and knows what the lines name
abbrev pub KnowsAverage : AverageCheck → Instance → List CertLine → Type 0
KnowsAverage check (Average average) lines = KnowsLines (λ average. no_points) (λ average. named_points) average_rule average (average_of check.points) (KnowsPoints check.points) lines
KnowsAverage check _ lines = ⊥
