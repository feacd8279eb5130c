use Rattle.node_state.specs.Draws.{own_demand}
use Rattle.stock_cli.proofs.runs.simulator.Goals as goal

pub returns-in-Ok-clause-stands : goal.returns-in-Ok-clause-stands
returns-in-Ok-clause-stands g c = record { after = c.in-Ok.ensures.stands (own_demand c.args.net.now); drawn = c.in-Ok.ensures.drawn }
