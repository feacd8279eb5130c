-- What the answer to a line says: it is the least rule from 2 on that the line breaks, and where it breaks none the check
-- knows of it too.
use Rattle.std.specs.Prelude.{ℕ, List, Option}
use Rattle.decision_model.specs.declared.instance.Instance.{Instance}
use Rattle.line_check.specs.Rules as lines
use Rattle.value_cert.specs.Standards.{kind_rules, rules_of}
use Rattle.value_cert.specs.declared.line.CertLine.{CertLine}

-- by the rules of the instance's kind
abbrev pub AnswersBehindHead : (Instance → List CertLine → Type 0) → Instance → List CertLine → CertLine → Option ℕ → Type 0
AnswersBehindHead Knows instance before line answer = lines.AnswersLine (kind_rules instance) (Knows instance) before line answer

-- by these and that of the head
abbrev pub AnswersLine : (Instance → List CertLine → Type 0) → Instance → List CertLine → CertLine → Option ℕ → Type 0
AnswersLine Knows instance before line answer = lines.AnswersLine (rules_of instance) (Knows instance) before line answer
