use Rattle.std.proofs.Common.{◌≡◌}
use Rattle.network_sim.specs.Wiring.{no_callers}
use Rattle.network_sim.proofs.wiring.no_callers.Given as goal

abbrev pub invariant-loop-held : goal.invariant-loop-held
invariant-loop-held l = l.lists.items ≡ no_callers l.held
