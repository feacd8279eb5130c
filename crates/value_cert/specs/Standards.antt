-- What certificates for an instance are held against: the one dispatch over its kind.
use Rattle.decision_model.specs.declared.instance.Instance.{Instance}
use Rattle.decision_model.specs.declared.instance.Instance.TheVariants.{News, Lots, Finite, Average, Serial, Network}
use Rattle.value_cert.specs.AverageRules.{average_standard}
use Rattle.value_cert.specs.FiniteRules.{finite_standard}
use Rattle.value_cert.specs.Headings.{heading_of, with_head}
use Rattle.value_cert.specs.LotsRules.{lots_standard}
use Rattle.value_cert.specs.NewsRules.{news_standard}
use Rattle.value_cert.specs.Rules.{Rules}
use Rattle.value_cert.specs.SerialRules.{serial_standard}
use Rattle.value_cert.specs.Standard.{Standard, unsolved}

abbrev pub standard_of : Instance → Standard
standard_of (News newsvendor) = news_standard newsvendor
standard_of (Lots lots) = lots_standard lots
standard_of (Finite finite) = finite_standard finite
standard_of (Average average) = average_standard average
standard_of (Serial serial) = serial_standard serial
standard_of (Network net) = unsolved

-- the rules of the instance's kind, behind the head
abbrev pub kind_rules : Instance → Rules
kind_rules instance = (standard_of instance).rules

-- .. and with it
abbrev pub rules_of : Instance → Rules
rules_of instance = with_head (heading_of instance) (kind_rules instance)
