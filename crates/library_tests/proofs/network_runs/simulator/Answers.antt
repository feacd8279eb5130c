use Rattle.std.proofs.Common.{List, map}
use Rattle.node_state.specs.Draws.{own_demand}
use Rattle.node_state.specs.Handed.{Handed}
use Rattle.library_tests.proofs.network_runs.simulator.Goals as goal

pub returns-in-Ok : goal.returns-in-Ok
returns-in-Ok g c = record {
  handed = map (λ b. (g.dyn-1.0.entry b.vtable).1.meaning b.value) c.new.result.items;
  stands = record { after = c.in-Ok.ensures.stands (own_demand c.args.net.now); drawn = c.in-Ok.ensures.drawn };
}
