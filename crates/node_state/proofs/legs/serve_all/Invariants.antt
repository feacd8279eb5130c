use Rattle.std.proofs.Common.{◌≡◌, ◌++◌, take, drop}
use Rattle.node_state.specs.Holdings.{claims_served, left_over}
use Rattle.node_state.proofs.legs.serve_all.Given as goal

abbrev pub invariant-loop-i : goal.invariant-loop-i
invariant-loop-i l = (take l.i l.claims ++ claims_served (drop l.i l.claims) l.left ≡ claims_served l.initial.claims l.stock) × (left_over (drop l.i l.claims) l.left ≡ left_over l.initial.claims l.stock)
