use Rattle.std.proofs.Common.{length, map}
use Rattle.network_sim.specs.Asks.{HavePassed}
use Rattle.network_sim.proofs.orders.order_pass.Given as goal

abbrev pub invariant-loop-i : goal.invariant-loop-i
invariant-loop-i g l =
    HavePassed
    (record {
      nodes = l.initial.nodes;
      stations = l.stations;
      demanded = l.demanded;
      demands = l.demands;
      paused = l.paused;
      handed = map (λ b. (g.dyn-1.0.entry b.vtable).1.meaning b.value) l.initial.rules;
      caps = l.caps;
    })
    (length l.initial.nodes) l.i l.nodes
    (map (λ b. (g.dyn-1.0.entry b.vtable).1.meaning b.value) l.rules)
