use Rattle.std.proofs.Common.{◌≡◌, ◌++◌}
use Rattle.report_text.specs.Demand.{same_text}
use Rattle.report_text.proofs.periods.push_same.Given as goal

abbrev pub invariant-loop-place : goal.invariant-loop-place
invariant-loop-place l = l.out ≡ l.initial.out ++ same_text l.place l.text
