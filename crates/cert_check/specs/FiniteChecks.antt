-- What a check of a finite horizon knows of the lines so far.
use Rattle.std.specs.Prelude.{List}
use Rattle.decision_model.specs.declared.instance.Instance.{Instance}
use Rattle.decision_model.specs.declared.instance.Instance.TheVariants.{Finite}
use Rattle.finite_recursion.specs.Recursions.{finite_of, KnowsRows}
use Rattle.value_cert.specs.FiniteRules.{no_rows, named_values, finite_rule}
use Rattle.value_cert.specs.declared.line.CertLine.{CertLine}
use Rattle.cert_check.specs.KnownLines.{KnowsLines}
use Rattle.cert_check.specs.declared.finite.FiniteCheck.{FiniteCheck}

-- the check is of this instance, and knows the values that the lines name
abbrev pub KnowsFinite : FiniteCheck → Instance → List CertLine → Type 0
KnowsFinite check (Finite finite) lines = KnowsLines no_rows named_values finite_rule finite (finite_of check.recursion) (KnowsRows check.recursion) lines
KnowsFinite check _ lines = ⊥
