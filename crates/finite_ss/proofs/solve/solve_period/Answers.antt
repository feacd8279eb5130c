use Rattle.std.proofs.Common.{◌≡◌, ℕ, suc, ◌+◌, ◌-◌, ◌<◌, sym, ◌∙◌, ap, arith, subst}
use Rattle.decision_model.specs.declared.finite.Finite.{Finite}
use Rattle.finite_recursion.specs.Recursions.{finite_of, rows_of}
use Rattle.finite_ss.specs.Solving.{HasFront, HasSolved}
use Rattle.finite_ss.proofs.RowLoop.{row_begun}
use Rattle.value_cert.specs.FiniteRules.{solved_row}
use Rattle.finite_ss.proofs.solve.solve_period.Goals as goal

pub returns-clause-row : goal.returns-clause-row
returns-clause-row c = λ solved.
    let r = c.args.recursion.now in
    let k = rows_of r in
    let same = c.begin_row.ensures.finite in
    let front : HasFront c.begin_row.new.self k 0 = row_begun r c.begin_row.new.self k c.requires.left solved same c.begin_row.ensures.knows in
    let within : k < (finite_of c.begin_row.new.self).periods = subst (λ (f : Finite). k < f.periods) (sym same) c.requires.left in
    let periods = ap (λ (f : Finite). f.periods - c.rows.result) c.finite.ensures.finite ∙ ap (λ n. (finite_of r).periods - n) c.rows.ensures.rows in
    let cells = c.new.ensures ∙ c.in_ok-cells.ensures.cells k within front ∙ ap (λ (f : Finite). (solved_row f k (f.periods - k)).cells) same in
    λ i. record { period = periods i; cells = cells i }

pub returns-clause-solved : goal.returns-clause-solved
returns-clause-solved c = λ solved.
    let r = c.args.recursion.now in
    let k = rows_of r in
    let same = c.begin_row.ensures.finite in
    let front : HasFront c.begin_row.new.self k 0 = row_begun r c.begin_row.new.self k c.requires.left solved same c.begin_row.ensures.knows in
    let within : k < (finite_of c.begin_row.new.self).periods = subst (λ (f : Finite). k < f.periods) (sym same) c.requires.left in
    let count : suc k ≡ rows_of c.solve_row.new.recursion = omega (arith, c.in_ok-cells.ensures.rows, c.begin_row.ensures.rows) in
    subst (λ (n : ℕ). HasSolved c.solve_row.new.recursion n) count (c.in_ok-cells.ensures.solved k within front)
