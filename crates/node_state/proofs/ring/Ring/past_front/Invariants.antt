use Rattle.std.proofs.Common.{◌≡◌, ◌+◌, drop, sum}
use Rattle.node_state.proofs.ring.Ring.past_front.Given as goal

abbrev pub invariant-loop-place : goal.invariant-loop-place
invariant-loop-place l = l.sum + sum (drop l.place l.self) ≡ sum (drop 1 l.self)
