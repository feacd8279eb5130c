use Rattle.std.proofs.Common.{List, ◌≡◌, ℕ, ◌+◌, sym, ◌∙◌, ap, arith, subst}
use Rattle.finite_ss.proofs.RowsLoop.{IsSolvingRows, first_rows, rows_go_on}
use Rattle.value_cert.specs.declared.finite.FiniteRow.{FiniteRow}
use Rattle.finite_ss.proofs.solve.solve_rows.Goals as goal

pub loop-preserved : goal.loop-preserved
loop-preserved c =
    let e = c.in_ok-solve_period.ensures in
    let P : List FiniteRow → Type 0 = λ rows. IsSolvingRows c.args.finite.now c.solve_period.new.recursion rows (c.loop.counter + 1) in
    subst P (sym c.in_ok-push.ensures.items)
    (rows_go_on c.args.finite.now c.loop.recursion c.solve_period.new.recursion c.loop.rows.items c.loop.counter c.in_ok-solve_period.field-0 c.loop.invariant e.finite e.rows e.whole e.row e.solved)

pub returns : goal.returns
returns c =
    let ends : c.loop.counter ≡ c.args.finite.now.periods = omega (arith, c.loop-test.false, c.loop.auto.counter-end) in
    c.loop.invariant.are_rows ∙ ap (first_rows c.args.finite.now) ends
