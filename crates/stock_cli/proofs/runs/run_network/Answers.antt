use Rattle.std.proofs.Common.{List, map}
use Rattle.node_state.specs.Handed.{Handed}
use Rattle.stock_cli.proofs.Tasks.{outcome_part}
use Rattle.stock_cli.proofs.runs.run_network.Goals as goal

pub returns-in_err-run_rows-clause-part : goal.returns-in_err-run_rows-clause-part
returns-in_err-run_rows-clause-part g c =
    let handed : List Handed = map (λ b. (g.dyn-1.0.entry b.vtable).1.meaning b.value) c.args.rules.items in
    let stands = c.in_ok-sim.ensures.stands in
    outcome_part c.args.net.now handed _ _ stands.after.ready (c.in_err-run_rows.ensures.part handed stands)
