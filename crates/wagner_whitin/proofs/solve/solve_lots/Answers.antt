use Rattle.lot_lemmas.specs.LotDuality.{least_by_rules}
use Rattle.lot_lemmas.specs.LotSolved.{breaks_no_rule, has_text, duals_add_up}
use Rattle.wagner_whitin.proofs.solve.solve_lots.Goals as goal

pub returns-in-Ok-clause-accepted : goal.returns-in-Ok-clause-accepted
returns-in-Ok-clause-accepted c = rw c.in-Ok.ensures (breaks_no_rule c.args.lots.now c.requires)

pub returns-in-Ok-clause-text : goal.returns-in-Ok-clause-text
returns-in-Ok-clause-text c = rw c.in-Ok.ensures (has_text c.args.lots.now c.requires)

pub returns-in-Ok-clause-least : goal.returns-in-Ok-clause-least
returns-in-Ok-clause-least c = least_by_rules c.args.lots.now c.in-Ok.found c.requires.readable (rw c.in-Ok.ensures (breaks_no_rule c.args.lots.now c.requires))

pub returns-in-Ok-clause-dual : goal.returns-in-Ok-clause-dual
returns-in-Ok-clause-dual c = duals_add_up c.args.lots.now c.requires c.in-Ok.found c.in-Ok.ensures
