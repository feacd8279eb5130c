use Rattle.std.proofs.Common.{◌≡◌, ◌++◌, map, take, drop}
use Rattle.node_state.specs.Holdings.{unsent}
use Rattle.node_state.proofs.legs.send_nothing.Given as goal

abbrev pub invariant-loop-i : goal.invariant-loop-i
invariant-loop-i l = take l.i l.claims ++ map unsent (drop l.i l.claims) ≡ map unsent l.initial.claims
