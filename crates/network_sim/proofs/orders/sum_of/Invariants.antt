use Rattle.std.proofs.Common.{◌≡◌, ◌+◌, drop}
use Rattle.network_sim.specs.Machine.{sum_at}
use Rattle.network_sim.proofs.orders.sum_of.Given as goal

abbrev pub invariant-loop-i : goal.invariant-loop-i
invariant-loop-i l = l.sum + sum_at (drop l.i l.places) l.amounts ≡ sum_at l.places l.amounts
