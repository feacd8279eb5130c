use Rattle.std.proofs.Common.{◌≡◌, ◌++◌}
use Rattle.report_text.specs.Demand.{law_of_periods, periods_text}
use Rattle.report_text.proofs.periods.push_each.Given as goal

abbrev pub invariant-loop-place : goal.invariant-loop-place
invariant-loop-place l = l.out ≡ l.initial.out ++ periods_text l.place (λ place. law_of_periods l.laws place l.count)
