-- The certificate of a serial system.
use Rattle.std.specs.Prelude.{◌<◌, List, ◌∷◌, map, length, Bool, true, false, pos}
use Rattle.std.specs.List.{flat_map}
use Rattle.decision_model.specs.declared.kinds.Kind.TheVariants as kind
use Rattle.value_cert.specs.Contents.{Contents, Table, EachIs}
use Rattle.value_cert.specs.Numbers.{is_discount}
use Rattle.value_cert.specs.declared.line.CertLine.{CertLine}
use Rattle.value_cert.specs.declared.line.CertLine.TheVariants.{Period, Echelon, Part}
use Rattle.value_cert.specs.declared.line.Tag.{Tag}
use Rattle.value_cert.specs.declared.line.Tag.TheVariants as tag
use Rattle.value_cert.specs.declared.serial.SerialCell.{SerialCell}
use Rattle.value_cert.specs.declared.serial.SerialCert.{SerialCert}
use Rattle.value_cert.specs.declared.serial.SerialPeriod.{SerialPeriod}
use Rattle.value_cert.specs.declared.serial.SerialRow.{SerialRow}

abbrev pub part_line : SerialCell → CertLine
part_line cell = Part cell.at cell.value

-- an echelon with its level, and its parts
abbrev pub echelon_lines : SerialRow → List CertLine
echelon_lines row = Echelon (pos row.echelon) row.level ∷ map part_line row.cells

-- a period, and its echelons
abbrev pub period_lines : SerialPeriod → List CertLine
period_lines period = Period (pos period.period) ∷ flat_map echelon_lines period.rows

abbrev pub HasParts : SerialRow → Type 0
HasParts row = 0 < length row.cells

-- the period has some echelons, and each has some parts
pub record HasEchelons (period : SerialPeriod) : Type 0 where
  pub some : 0 < length period.rows
  pub each : EachIs HasParts period.rows

-- there are some periods, and each has some echelons with some parts
pub record HasPeriods (c : SerialCert) : Type 0 where
  pub some : 0 < length c.periods
  pub each : EachIs HasEchelons c.periods

abbrev pub serial_contents : SerialCert → Contents
serial_contents c = record {
  head = record { kind = kind.Serial; num = c.discount_num; den = c.discount_den };
  lines = flat_map period_lines c.periods;
  complete = HasPeriods c;
}

abbrev pub serial_follows : Tag → Tag → Bool
serial_follows tag.Head tag.Period = true
serial_follows tag.Period tag.Echelon = true
serial_follows tag.Echelon tag.Part = true
serial_follows tag.Part tag.Part = true
serial_follows tag.Part tag.Echelon = true
serial_follows tag.Part tag.Period = true
serial_follows tag.Part tag.End = true
serial_follows _ _ = false

abbrev pub serial_table : Table
serial_table = record { discount = is_discount; follows = serial_follows }
