use Rattle.std.proofs.Common.{map, subst}
use Rattle.node_state.specs.Draws.{own_demand}
use Rattle.node_state.specs.Table.{setting_of}
use Rattle.network_sim.specs.Simulated.{IsAfter}
use Rattle.stock_cli.proofs.trial.simulator.Goals as goal

pub returns : goal.returns
returns g c = record {
  after = subst
      (λ rules. IsAfter (setting_of c.args.net.now (map (λ b. (g.dyn-1.0.entry b.vtable).1.meaning b.value) rules)) 0 c.in-Ok.sim (map (λ b. (g.dyn-1.0.entry b.vtable).1.meaning b.value) c.in-Ok.sim.rules.items))
      c.new.ensures.items
      (c.in-Ok.ensures.stands (own_demand c.args.net.now));
  drawn = c.in-Ok.ensures.drawn;
}
