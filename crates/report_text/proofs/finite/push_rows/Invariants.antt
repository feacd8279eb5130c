use Rattle.std.proofs.Common.{◌≡◌, ◌++◌, drop, reverse}
use Rattle.std.specs.List.{flat_map}
use Rattle.report_text.specs.Finite.{row_lines}
use Rattle.report_text.proofs.finite.push_rows.Given as goal

abbrev pub invariant-loop-place : goal.invariant-loop-place
invariant-loop-place l = l.out ≡ l.initial.out ++ flat_map row_lines (reverse (drop l.place l.rows))
