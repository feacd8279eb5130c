use Rattle.std.proofs.Common.{rules, ◌≤◌, sym, subst, ap, arith}
use Rattle.network_model.specs.Nodes.{top_of}
use Rattle.node_state.specs.Draws.{demand_of, word_at}
use Rattle.network_sim.proofs.Drawn.{at_most_greatest, pick_small}
use Rattle.network_sim.proofs.draws.demand.Goals as goal

pub returns-in-Trace-clause-value : goal.returns-in-Trace-clause-value
returns-in-Trace-clause-value c = search rules

pub returns-in-Trace-clause-small : goal.returns-in-Trace-clause-small
returns-in-Trace-clause-small c =
    let value = returns-in-Trace-clause-value c in
    let demand = ap (λ d. demand_of d c.args.t (word_at c.args.words.now 0)) c.in-Trace.is in
    let top = ap top_of c.in-Trace.is in
    let most = at_most_greatest c.in-Trace.units c.args.t in
    omega arith

pub returns-in-Drawn-clause-small : goal.returns-in-Drawn-clause-small
returns-in-Drawn-clause-small c = subst (λ d. c.pick.result ≤ top_of d) (sym c.in-Drawn.is) (pick_small c.in-Drawn.law c.pick.result _ c.pick.ensures.above c.pick.ensures.least)
