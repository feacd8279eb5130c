-- What a newsvendor's check knows of the lines so far.
use Rattle.std.specs.Prelude.{◌≡◌, List}
use Rattle.newsvendor.specs.Item.{NewsvendorItem}
use Rattle.decision_model.specs.declared.instance.Instance.{Instance}
use Rattle.decision_model.specs.declared.instance.Instance.TheVariants.{News}
use Rattle.value_cert.specs.NewsRules.{news_rules}
use Rattle.value_cert.specs.Rules.{known_of}
use Rattle.value_cert.specs.declared.line.CertLine.{CertLine}
use Rattle.cert_check.specs.declared.news.NewsCheck.{NewsCheck}

-- the check is of this newsvendor, and knows the level that the lines name
pub record IsNewsCheckOf (newsvendor : NewsvendorItem) (check : NewsCheck) (lines : List CertLine) : Type 0 where
  pub newsvendor_is : check.newsvendor.now ≡ newsvendor
  pub named : check.level ≡ known_of (news_rules newsvendor) lines

abbrev pub KnowsNews : NewsCheck → Instance → List CertLine → Type 0
KnowsNews check (News newsvendor) lines = IsNewsCheckOf newsvendor check lines
KnowsNews check _ lines = ⊥
