use Rattle.std.proofs.Common.{◌≡◌, ℤ, subst, ◌∙◌, to_z, of_z, rules, FitsSigned, if◌then◌else◌, Some}
use mir.Syntax.{w128}
use Rattle.std.proofs.lemmas.Int.{to_z-of_z}
use Rattle.value_cert.specs.BracketRules.{cell_rule, named_cell}
use Rattle.flat_check.specs.BracketKnown.{KnowsCells, instance_of}
use Rattle.flat_check.proofs.bracket_lines.BracketLines.take_cell.Goals as goal

pub returns-clause-rule : goal.returns-clause-rule
returns-clause-rule c = λ first knows.
    let row = c.args.row.now in
    let item = instance_of c.args.self.now.cells in
    let at_fits : FitsSigned w128 row.first = search rules in
    let under_fits : FitsSigned w128 row.second = search rules in
    let over_fits : FitsSigned w128 row.third = search rules in
    let at = to_z-of_z w128 row.first at_fits in
    let under = to_z-of_z w128 row.second under_fits in
    let over = to_z-of_z w128 row.third over_fits in
    c.take_cell.ensures.rule first knows.cells
    ∙ (λ i. cell_rule item first (at i) (under i) (over i))
    ∙ (λ i. if c.if-not-has.ensures i then cell_rule item first row.first row.second row.third else Some 2)

pub returns-clause-rows : goal.returns-clause-rows
returns-clause-rows c = λ first knows none.
    let row = c.args.row.now in
    let under_fits : FitsSigned w128 row.second = search rules in
    let over_fits : FitsSigned w128 row.third = search rules in
    let Knows : ℤ → ℤ → Type 0 = λ under over. KnowsCells c.take_cell.new.self (named_cell first under over) in
    record {
      rows = knows.rows;
      cells = subst (λ (under : ℤ). Knows under row.third) (to_z-of_z w128 row.second under_fits)
          (subst (λ (over : ℤ). Knows (to_z w128 (of_z w128 row.second)) over) (to_z-of_z w128 row.third over_fits) (c.take_cell.ensures.cells first knows.cells none));
    }
