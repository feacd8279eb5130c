use Rattle.std.proofs.Common.{◌≡◌, false}
use Rattle.network_sim.specs.Houses.{is_named}
use Rattle.network_sim.proofs.house.is_named.Given as goal

abbrev pub invariant-loop-i : goal.invariant-loop-i
invariant-loop-i l = is_named l.nodes l.index l.i ≡ false
