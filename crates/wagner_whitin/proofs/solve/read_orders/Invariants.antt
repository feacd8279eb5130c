use Rattle.wagner_whitin.proofs.Steps.{IsReadFrom}
use Rattle.wagner_whitin.proofs.solve.read_orders.Given as goal

abbrev pub invariant-loop-unread : goal.invariant-loop-unread
invariant-loop-unread l = IsReadFrom l.lots l.unread l.orders.items

abbrev pub decreases-loop-unread : goal.decreases-loop-unread
decreases-loop-unread l = l.unread
