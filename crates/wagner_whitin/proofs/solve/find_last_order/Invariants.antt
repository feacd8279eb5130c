use Rattle.std.proofs.Common.{◌≤◌}
use Rattle.wagner_whitin.proofs.Search.{IsStretch, IsLatestFrom}
use Rattle.wagner_whitin.proofs.solve.find_last_order.Given as goal

abbrev pub invariant-loop-start : goal.invariant-loop-start
invariant-loop-start l = record {
  from_first : l.first ≤ l.start;
  stretch : IsStretch l.lots l.period l.start l.units l.held;
  best : IsLatestFrom l.lots l.period l.start l.last.period l.last.cost;
}
