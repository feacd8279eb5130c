use Rattle.stock_cli.proofs.Endings.{checks_told}
use Rattle.stock_cli.proofs.check.check.Goals as goal

pub returns-clause-ok : goal.returns-clause-ok
returns-clause-ok g c = checks_told g.S.Subject.subject _ _ _ _ c.in_ok-solvable.ensures.solved c.in_ok-verdict.ensures.verdict c.in_ok-answer.ensures.ok
