-- The kinds of certificates: each states what it holds and which lines may stand behind one another.
use Rattle.std.specs.Prelude.{Bool, false, pos}
use Rattle.decision_model.specs.declared.kinds.Kind.{Kind}
use Rattle.decision_model.specs.declared.kinds.Kind.TheVariants as kind
use Rattle.value_cert.specs.Average.{average_contents, average_table}
use Rattle.value_cert.specs.Contents.{Contents, Table}
use Rattle.value_cert.specs.Finite.{finite_contents, finite_table}
use Rattle.value_cert.specs.Lots.{lot_contents, lot_table}
use Rattle.value_cert.specs.News.{news_contents, news_table}
use Rattle.value_cert.specs.Serial.{serial_contents, serial_table}
use Rattle.value_cert.specs.declared.cert.Cert.{Cert}
use Rattle.value_cert.specs.declared.cert.Cert.TheVariants as cert

abbrev pub contents_of : Cert → Contents
contents_of (cert.News c) = news_contents c
contents_of (cert.Lots c) = lot_contents c
contents_of (cert.Finite c) = finite_contents c
contents_of (cert.Average c) = average_contents c
contents_of (cert.Serial c) = serial_contents c

-- a kind without certificates has no head
abbrev pub table_of : Kind → Table
table_of kind.News = news_table
table_of kind.Lots = lot_table
table_of kind.Finite = finite_table
table_of kind.Average = average_table
table_of kind.Serial = serial_table
table_of kind.Network = record { discount = λ num den. false; follows = λ tag next. false }

-- a kind has certificates where its head may stand without a discount
abbrev pub has_certificates : Kind → Bool
has_certificates kind = (table_of kind).discount (pos 1) (pos 1)
