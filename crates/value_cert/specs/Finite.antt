-- The certificate of a finite horizon.
use Rattle.std.specs.Prelude.{◌<◌, List, ◌∷◌, map, length, Bool, true, false, pos}
use Rattle.std.specs.List.{flat_map}
use Rattle.decision_model.specs.declared.kinds.Kind.TheVariants as kind
use Rattle.value_cert.specs.Contents.{Contents, Table, EachIs}
use Rattle.value_cert.specs.Numbers.{is_discount}
use Rattle.value_cert.specs.declared.finite.FiniteCell.{FiniteCell}
use Rattle.value_cert.specs.declared.finite.FiniteCert.{FiniteCert}
use Rattle.value_cert.specs.declared.finite.FiniteRow.{FiniteRow}
use Rattle.value_cert.specs.declared.line.CertLine.{CertLine}
use Rattle.value_cert.specs.declared.line.CertLine.TheVariants.{Period, Value}
use Rattle.value_cert.specs.declared.line.Tag.{Tag}
use Rattle.value_cert.specs.declared.line.Tag.TheVariants as tag

abbrev pub value_line : FiniteCell → CertLine
value_line cell = Value cell.at cell.to cell.value

-- a period, and its positions
abbrev pub row_lines : FiniteRow → List CertLine
row_lines row = Period (pos row.period) ∷ map value_line row.cells

abbrev pub HasValues : FiniteRow → Type 0
HasValues row = 0 < length row.cells

-- there are some periods, and each has some positions
pub record HasRows (c : FiniteCert) : Type 0 where
  pub some : 0 < length c.rows
  pub each : EachIs HasValues c.rows

abbrev pub finite_contents : FiniteCert → Contents
finite_contents c = record {
  head = record { kind = kind.Finite; num = c.discount_num; den = c.discount_den };
  lines = flat_map row_lines c.rows;
  complete = HasRows c;
}

abbrev pub finite_follows : Tag → Tag → Bool
finite_follows tag.Head tag.Period = true
finite_follows tag.Period tag.Value = true
finite_follows tag.Value tag.Value = true
finite_follows tag.Value tag.Period = true
finite_follows tag.Value tag.End = true
finite_follows _ _ = false

abbrev pub finite_table : Table
finite_table = record { discount = is_discount; follows = finite_follows }
