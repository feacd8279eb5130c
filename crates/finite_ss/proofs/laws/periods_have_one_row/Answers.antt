use Rattle.finite_lemmas.specs.SolvedRows.{solved_has_rows}
use Rattle.finite_ss.specs.SolvedShapes.{one_row}
use Rattle.finite_ss.proofs.laws.periods_have_one_row.Goals as goal

pub returns-clause-each : goal.returns-clause-each
returns-clause-each c = one_row

pub returns-clause-solved : goal.returns-clause-solved
returns-clause-solved c = solved_has_rows
