-- What a check of a text stands for.
use Rattle.std.specs.Prelude.{ℕ, List}
use Rattle.decision_model.specs.declared.instance.Instance.{Instance}
use Rattle.line_check.specs.TextChecks as texts
use Rattle.line_check.specs.declared.verdict.Verdict.{Verdict}
use Rattle.value_cert.specs.Breaches.{cert_rules}
use Rattle.cert_check.specs.Kinds.{KnowsKind}
use Rattle.cert_check.specs.Meaning.{IsWhollyValid}
use Rattle.cert_check.specs.declared.text_check.TextCheck.{TextCheck}

-- what a verdict tells of a text of which more may come: a rejection stays, however it goes on
abbrev pub Tells : Instance → List ℕ → Verdict → Type 0
Tells instance text verdict = texts.Tells (cert_rules instance) text verdict

-- the last answer of a check
abbrev pub last_verdict : TextCheck → Verdict
last_verdict check = check.verdict

-- the check stands for these bytes of a text for a valid instance: it holds the verdict on them, and where it rejects none of them it reads on
pub record IsTextCheckOf (instance : Instance) (check : TextCheck) (bytes : List ℕ) : Type 0 where
  pub valid : IsWhollyValid instance
  pub stands : texts.IsTextCheckOf (cert_rules instance) (KnowsKind check.kind instance) check.reader.lines check.verdict bytes
