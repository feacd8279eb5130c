use Rattle.finite_recursion.proofs.RowFacts.{row_facts}
use Rattle.finite_recursion.proofs.recursion.Recursion.position.Goals as goal

pub position_at-requires-clause-place : goal.position_at-requires-clause-place
position_at-requires-clause-place c = (row_facts c.args.self.now c.requires.left).few
