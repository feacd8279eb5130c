use Rattle.cert_check.proofs.LotCells.{IsRaised}
use Rattle.cert_check.proofs.lots.add_dual.Given as goal

abbrev pub invariant-loop-start : goal.invariant-loop-start
invariant-loop-start l = IsRaised l.lots l.fn.excesses l.excesses l.period l.dual l.start l.held
