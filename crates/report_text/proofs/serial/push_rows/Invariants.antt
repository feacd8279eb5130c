use Rattle.std.proofs.Common.{◌≡◌, ◌++◌, drop}
use Rattle.std.specs.List.{flat_map}
use Rattle.report_text.specs.Serial.{level_line}
use Rattle.report_text.proofs.serial.push_rows.Given as goal

abbrev pub invariant-loop-row : goal.invariant-loop-row
invariant-loop-row l = l.initial.out ++ flat_map (level_line l.period) l.rows ≡ l.out ++ flat_map (level_line l.period) (drop l.row-index l.rows)
