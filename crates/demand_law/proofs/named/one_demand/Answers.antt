use Rattle.std.proofs.Common.{[], ◌∷◌}
use Rattle.demand_law.proofs.FewPoints.{no_fault_one, only_memory}
use Rattle.demand_law.proofs.named.one_demand.Goals as goal

pub returns-clause-err : goal.returns-clause-err
returns-clause-err c = only_memory ((c.args.demand, c.args.weight) ∷ []) c.from_points.result (no_fault_one c.args.demand c.args.weight c.requires.demand c.requires.some c.requires.most) c.from_points.ensures.bad
