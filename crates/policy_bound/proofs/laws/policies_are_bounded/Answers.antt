use Rattle.std.proofs.Common.{arith}
use Rattle.policy_bound.specs.PolicyBound.{lower_bound, upper_bound}
use Rattle.policy_bound.proofs.laws.policies_are_bounded.Goals as goal

pub returns-clause-below : goal.returns-clause-below
returns-clause-below g c V choose below ok =
    let p = g.P.Problem.meaning c.args.problem.now in
    let on = g.met.P.Problem.on_grid c.args.problem.now c.requires in
    lower_bound p V on below p.horizon 1 p.start choose (omega arith) (omega arith) on.start ok

pub returns-clause-above : goal.returns-clause-above
returns-clause-above g c V choose above =
    let p = g.P.Problem.meaning c.args.problem.now in
    upper_bound p V p.horizon 1 p.start choose (omega arith) above
