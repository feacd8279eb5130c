use Rattle.std.proofs.Common.{◌≡◌}
use Rattle.node_state.specs.Holdings.{new_claims}
use Rattle.node_state.proofs.legs.new_claims.Given as goal

abbrev pub invariant-loop-held : goal.invariant-loop-held
invariant-loop-held l = l.claims.items ≡ new_claims l.held
