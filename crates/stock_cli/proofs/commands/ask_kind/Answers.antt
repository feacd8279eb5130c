use Rattle.stock_cli.proofs.Endings.{is_standard}
use Rattle.stock_cli.proofs.commands.ask_kind.Goals as goal

pub returns-in_err-instance-clause-spared_files : goal.returns-in_err-instance-clause-spared_files
returns-in_err-instance-clause-spared_files g c = λ spares. c.in_err-instance.ensures.same_files (is_standard _ (λ name e. spares.none name e))

pub returns-clause-spared_files : goal.returns-clause-spared_files
returns-clause-spared_files g c = λ spares. c.in_ok-instance.ensures.same_files (is_standard _ (λ name e. spares.none name e))
