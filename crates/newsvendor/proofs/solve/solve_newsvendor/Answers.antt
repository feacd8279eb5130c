use Rattle.std.proofs.Common.{arith}
use Rattle.newsvendor.specs.FirstLeast.{found}
use Rattle.newsvendor.specs.CriticalRatio.{least_by_ratio}
use Rattle.newsvendor.proofs.solve.solve_newsvendor.Goals as goal

pub returns-clause-level : goal.returns-clause-level
returns-clause-level c =
    let item = c.args.item.now in
    least_by_ratio item.holding item.stockout item.law c.critical_level-q.result c.critical_level-q.ensures.reached c.critical_level-q.ensures.first

pub returns-clause-exact : goal.returns-clause-exact
returns-clause-exact c = found _ _ _ (omega (arith, c.critical_level-q.ensures.within)) (returns-clause-level c)
