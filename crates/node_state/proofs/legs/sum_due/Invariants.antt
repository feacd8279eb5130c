use Rattle.std.proofs.Common.{◌≡◌, take}
use Rattle.node_state.specs.Holdings.{total_due}
use Rattle.node_state.proofs.legs.sum_due.Given as goal

abbrev pub invariant-loop-i : goal.invariant-loop-i
invariant-loop-i l = l.sum ≡ total_due (take l.i l.claims)
