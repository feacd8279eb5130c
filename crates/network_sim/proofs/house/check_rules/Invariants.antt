use Rattle.std.proofs.Common.{◌≡◌, map, None}
use Rattle.network_sim.specs.Houses.{refusal_before}
use Rattle.network_sim.proofs.house.check_rules.Given as goal

abbrev pub invariant-loop-i : goal.invariant-loop-i
invariant-loop-i g l = refusal_before l.nodes (map (λ b. (g.dyn-1.0.entry b.vtable).1.meaning b.value) l.rules) l.i ≡ None
