-- What a check stands for.
use Rattle.std.specs.Prelude.{List}
use Rattle.decision_model.specs.declared.instance.Instance.{Instance}
use Rattle.decision_model.specs.Valid.{IsValid}
use Rattle.line_check.specs.Checks as lines
use Rattle.value_cert.specs.Breaches.{cert_rules}
use Rattle.value_cert.specs.declared.line.CertLine.{CertLine}
use Rattle.cert_check.specs.Kinds.{KnowsKind}
use Rattle.cert_check.specs.declared.check.Check.{Check}

-- these lines break no rule, and the check knows where the next one stands
abbrev pub IsPassing : Instance → Check → List CertLine → Type 0
IsPassing instance check told = lines.IsPassing (cert_rules instance) (KnowsKind check.kind instance) check.place check.number told

-- the check stands for these lines of a certificate for a valid instance: it holds the verdict on them, and where they break no rule what the next line needs
pub record IsCheckOf (instance : Instance) (check : Check) (told : List CertLine) : Type 0 where
  pub valid : IsValid instance
  pub stands : lines.IsCheckOf (cert_rules instance) (KnowsKind check.kind instance) check.place check.number check.verdict told
