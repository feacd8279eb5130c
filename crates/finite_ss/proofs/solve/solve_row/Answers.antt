use Rattle.std.proofs.Common.{List, subst, sym, ◌≡◌, ℕ, ◌+◌, ◌-◌, ◌∙◌, arith}
use Rattle.decision_model.specs.declared.finite.Finite.{Finite}
use Rattle.finite_recursion.specs.Recursions.{finite_of}
use Rattle.finite_ss.specs.Solving.{HasFront}
use Rattle.finite_ss.proofs.RowLoop.{IsSolvingRow, goes_on, row_cells, row_solved, width_is}
use Rattle.value_cert.specs.FiniteValues.{row_width}
use Rattle.value_cert.specs.declared.finite.FiniteCell.{FiniteCell}
use Rattle.finite_ss.proofs.solve.solve_row.Goals as goal

pub loop-preserved : goal.loop-preserved
loop-preserved c =
    let e = c.solve_position.ensures in
    let P : List FiniteCell → Type 0 = λ cells. IsSolvingRow c.args.recursion.now c.solve_position.new.recursion cells (c.loop.counter + 1) in
    subst P (sym c.in_ok-push.ensures.items)
    (goes_on c.args.recursion.now c.loop.recursion c.solve_position.new.recursion c.loop.cells.items c.loop.counter c.solve_position.result c.loop.invariant e.finite e.rows e.place e.cell e.front)

-- the loop ends with the whole row
counted : (c : goal.After-loop) (n : ℕ) → HasFront c.args.recursion.now n 0 → c.loop.counter ≡ row_width (finite_of c.args.recursion.now) ((finite_of c.args.recursion.now).periods - n)
counted c n front =
    let ends : c.loop.counter ≡ c.row_width-width.result = omega (arith, c.loop-test.false, c.loop.auto.counter-end) in
    ends ∙ c.row_width-width.ensures ∙ width_is c.args.recursion.now n front

pub returns-clause-cells : goal.returns-clause-cells
returns-clause-cells c = λ n lt front. row_cells c.args.recursion.now c.loop.recursion c.loop.cells.items c.loop.counter n c.loop.invariant lt front (counted c n front)

pub returns-clause-solved : goal.returns-clause-solved
returns-clause-solved c = λ n lt front. row_solved c.args.recursion.now c.loop.recursion c.loop.cells.items c.loop.counter n c.loop.invariant lt front (counted c n front)
