use Rattle.std.proofs.Common.{◌≡◌, take}
use Rattle.node_state.specs.Holdings.{legs_of}
use Rattle.node_state.proofs.legs.new_legs.Given as goal

abbrev pub invariant-loop-i : goal.invariant-loop-i
invariant-loop-i l = l.legs.items ≡ legs_of (take l.i l.sources)
