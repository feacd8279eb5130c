use Rattle.std.proofs.Common.{◌≡◌, ◌+◌, ◌-◌, ◌≤◌}
use Rattle.circular_buffer.specs.Buffer.{buffer}
use Rattle.node_state.specs.Holdings.{zeros}
use Rattle.node_state.proofs.ring.Ring.new.Given as goal

abbrev pub invariant-loop-held : goal.invariant-loop-held
invariant-loop-held l = (l.amounts ≡ buffer (zeros l.held) (l.lead + 1)) × (l.held ≤ l.lead + 1)

abbrev pub decreases-loop-held : goal.decreases-loop-held
decreases-loop-held l = l.lead + 1 - l.held
