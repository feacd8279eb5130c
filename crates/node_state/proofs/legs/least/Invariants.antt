use Rattle.std.proofs.Common.{◌≡◌, drop}
use Rattle.node_state.specs.Holdings.{least_raw, least_raw_from}
use Rattle.node_state.proofs.legs.least.Given as goal

abbrev pub invariant-loop-i : goal.invariant-loop-i
invariant-loop-i l = least_raw_from l.least (drop l.i l.legs) ≡ least_raw l.legs
