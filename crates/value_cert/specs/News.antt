-- The certificate of a newsvendor.
use Rattle.std.specs.Prelude.{List, [], ◌∷◌, Bool, true, false, pos}
use Rattle.newsvendor.specs.declared.solve.NewsCert.{NewsCert}
use Rattle.decision_model.specs.declared.kinds.Kind.TheVariants as kind
use Rattle.value_cert.specs.Contents.{Contents, Table}
use Rattle.value_cert.specs.Headings.{plain_heading}
use Rattle.value_cert.specs.Numbers.{is_no_discount}
use Rattle.value_cert.specs.declared.line.CertLine.{CertLine}
use Rattle.value_cert.specs.declared.line.CertLine.TheVariants.{Level, Cost}
use Rattle.value_cert.specs.declared.line.Tag.{Tag}
use Rattle.value_cert.specs.declared.line.Tag.TheVariants as tag

-- the lines between the head and the end
abbrev pub news_lines : NewsCert → List CertLine
news_lines c = Level (pos c.q) ∷ Cost (pos c.cost) ∷ []

abbrev pub news_contents : NewsCert → Contents
news_contents c = record { head = plain_heading kind.News; lines = news_lines c; complete = Unit {0} }

abbrev pub news_follows : Tag → Tag → Bool
news_follows tag.Head tag.Level = true
news_follows tag.Level tag.Cost = true
news_follows tag.Cost tag.End = true
news_follows _ _ = false

abbrev pub news_table : Table
news_table = record { discount = is_no_discount; follows = news_follows }
