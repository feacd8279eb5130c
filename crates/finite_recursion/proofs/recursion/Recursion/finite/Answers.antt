use Rattle.finite_recursion.proofs.Known.{valid_known}
use Rattle.finite_recursion.proofs.recursion.Recursion.finite.Goals as goal

pub returns-clause-valid : goal.returns-clause-valid
returns-clause-valid c = valid_known c.args.self.now.finite.now c.args.self.now.valid
