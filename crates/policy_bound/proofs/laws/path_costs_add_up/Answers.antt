use Rattle.policy_bound.specs.PathSums.{path_sum-is}
use Rattle.policy_bound.proofs.laws.path_costs_add_up.Goals as goal

pub returns : goal.returns
returns g c choose ds = path_sum-is (g.P.Problem.meaning c.args.problem.now) choose ds
