-- What a check knows of the lines so far: the one dispatch over kinds.
use Rattle.std.specs.Prelude.{◌≡◌, List}
use Rattle.decision_model.specs.declared.instance.Instance.{Instance}
use Rattle.value_cert.specs.Headings.{heading_of}
use Rattle.value_cert.specs.declared.line.CertLine.{CertLine}
use Rattle.cert_check.specs.AverageChecks.{KnowsAverage}
use Rattle.cert_check.specs.FiniteChecks.{KnowsFinite}
use Rattle.cert_check.specs.LotsChecks.{KnowsLots}
use Rattle.cert_check.specs.NetworkChecks.{KnowsNetwork}
use Rattle.cert_check.specs.NewsChecks.{KnowsNews}
use Rattle.cert_check.specs.SerialChecks.{KnowsSerial}
use Rattle.cert_check.specs.declared.kind_check.AnyKind.{AnyKind}
use Rattle.cert_check.specs.declared.kind_check.AnyKind.TheVariants as kind
use Rattle.cert_check.specs.declared.kind_check.KindCheck.{KindCheck}

-- the rules are those of the instance's kind, and know of the lines what they ask
abbrev pub KnowsAny : AnyKind → Instance → List CertLine → Type 0
KnowsAny (kind.News rules) instance lines = KnowsNews rules instance lines
KnowsAny (kind.Lots rules) instance lines = KnowsLots rules instance lines
KnowsAny (kind.Finite rules) instance lines = KnowsFinite rules instance lines
KnowsAny (kind.Average rules) instance lines = KnowsAverage rules instance lines
KnowsAny (kind.Serial rules) instance lines = KnowsSerial rules instance lines
KnowsAny (kind.Network rules) instance lines = KnowsNetwork rules instance lines

-- the check is of this instance
pub record KnowsKind (check : KindCheck) (instance : Instance) (lines : List CertLine) : Type 0 where
  pub heading_is : check.heading ≡ heading_of instance
  pub rules : KnowsAny check.rules instance lines
