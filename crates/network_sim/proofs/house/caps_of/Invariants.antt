use Rattle.std.proofs.Common.{◌≡◌, map, take}
use Rattle.node_state.specs.Handed.{Handed}
use Rattle.network_sim.proofs.house.caps_of.Given as goal

abbrev pub invariant-loop-index : goal.invariant-loop-index
invariant-loop-index g l = l.caps.items ≡ take l.index (map (λ (r : Handed). r.most) (map (λ b. (g.dyn-1.0.entry b.vtable).1.meaning b.value) l.rules))
