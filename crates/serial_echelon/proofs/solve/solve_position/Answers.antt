use Rattle.std.proofs.Common.{rules, refl, ◌∙◌, FitsSigned, to_z-of_z}
use mir.Syntax.{w64, w128}
use Rattle.serial_echelon.proofs.Steps.{next, own, value_at_next, value_counted, position_kept}
use Rattle.serial_echelon.proofs.solve.solve_position.Goals as goal

pub returns-clause-cell : goal.returns-clause-cell
returns-clause-cell c = λ has.
    let r = c.args.recursion.now in
    let begun = c.requires.begun in
    let within = c.requires.within in
    let left = c.requires.left in
    let at_fits : FitsSigned w64 c.position-at.result = search rules in
    let value_fits : FitsSigned w128 c.find-value.result = search rules in
    let at = to_z-of_z at_fits ∙ c.position-at.ensures.next in
    let value = to_z-of_z value_fits ∙ c.find-value.ensures has.first has.knows ∙ value_at_next r has begun within left ∙ value_counted r has begun within left in
    λ i. record { at = at i; value = value i }

pub returns-clause-solved : goal.returns-clause-solved
returns-clause-solved c = λ has.
    let r = c.args.recursion.now in
    let begun = c.requires.begun in
    let within = c.requires.within in
    let left = c.requires.left in
    position_kept r has begun within left c.keep.new.self c.keep.ensures.serial
    (c.keep.ensures.knows has.first (next r has begun within left) (own r has begun within left) has.knows refl refl)
