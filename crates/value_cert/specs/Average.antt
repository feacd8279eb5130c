-- The certificate of an average cost.
use Rattle.std.specs.Prelude.{◌<◌, List, ◌∷◌, map, length, Bool, true, false, pos}
use Rattle.decision_model.specs.declared.kinds.Kind.TheVariants as kind
use Rattle.value_cert.specs.Contents.{Contents, Table}
use Rattle.value_cert.specs.Headings.{plain_heading}
use Rattle.value_cert.specs.Numbers.{is_no_discount}
use Rattle.value_cert.specs.declared.average.AverageCell.{AverageCell}
use Rattle.value_cert.specs.declared.average.AverageCert.{AverageCert}
use Rattle.value_cert.specs.declared.line.CertLine.{CertLine}
use Rattle.value_cert.specs.declared.line.CertLine.TheVariants.{Gain, Pair, Point}
use Rattle.value_cert.specs.declared.line.Tag.{Tag}
use Rattle.value_cert.specs.declared.line.Tag.TheVariants as tag

abbrev pub point_line : AverageCell → CertLine
point_line cell = Point cell.at (pos cell.lower) (pos cell.upper)

-- the lines between the head and the end
abbrev pub average_lines : AverageCert → List CertLine
average_lines c = Gain (pos c.num) (pos c.den) ∷ Pair c.low c.high ∷ map point_line c.cells

abbrev pub average_contents : AverageCert → Contents
average_contents c = record { head = plain_heading kind.Average; lines = average_lines c; complete = 0 < length c.cells }

abbrev pub average_follows : Tag → Tag → Bool
average_follows tag.Head tag.Gain = true
average_follows tag.Gain tag.Pair = true
average_follows tag.Pair tag.Point = true
average_follows tag.Point tag.Point = true
average_follows tag.Point tag.End = true
average_follows _ _ = false

abbrev pub average_table : Table
average_table = record { discount = is_no_discount; follows = average_follows }
