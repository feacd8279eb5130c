-- What a line tells, its numbers aside.
use Rattle.value_cert.specs.declared.line.CertLine.{CertLine}
use Rattle.value_cert.specs.declared.line.CertLine.TheVariants as line
use Rattle.value_cert.specs.declared.line.Tag.{Tag}
use Rattle.value_cert.specs.declared.line.Tag.TheVariants as tag

abbrev pub tag_of : CertLine → Tag
tag_of (line.Head kind num den) = tag.Head
tag_of (line.Level level) = tag.Level
tag_of (line.Order order dual) = tag.Order
tag_of (line.Cost cost) = tag.Cost
tag_of (line.Period period) = tag.Period
tag_of (line.Value at to value) = tag.Value
tag_of (line.Gain num den) = tag.Gain
tag_of (line.Pair low high) = tag.Pair
tag_of (line.Point at lower upper) = tag.Point
tag_of (line.Echelon echelon level) = tag.Echelon
tag_of (line.Part at value) = tag.Part
tag_of line.End = tag.End
