use Rattle.std.proofs.Common.{◌≡◌, ℤ, subst, sym, ap, ◌∙◌, rules, FitsSigned}
use mir.Syntax.{w128}
use Rattle.std.proofs.lemmas.Int.{to_z-of_z}
use Rattle.value_cert.specs.BracketRules.{row_rule, bracket_rule, named_cells}
use Rattle.value_cert.specs.declared.flat_line.FlatLine.{FlatLine}
use Rattle.value_cert.specs.declared.flat_line.FlatLine.TheVariants.{Row}
use Rattle.flat_check.specs.BracketKnown.{instance_of}
use Rattle.flat_check.specs.BracketRows.{KnowsRows}
use Rattle.flat_check.proofs.bracket_lines.BracketLines.take.Goals as goal

pub returns-in-Row-clause-rule : goal.returns-in-Row-clause-rule
returns-in-Row-clause-rule c = λ first knows.
    let row = c.in-Row in
    let item = instance_of c.args.self.now.cells in
    let a_fits : FitsSigned w128 row.a = search rules in
    let b_fits : FitsSigned w128 row.b = search rules in
    let c_fits : FitsSigned w128 row.c = search rules in
    let a_back = to_z-of_z w128 row.a a_fits in
    let b_back = to_z-of_z w128 row.b b_fits in
    let c_back = to_z-of_z w128 row.c c_fits in
    c.take_row.ensures.rule first knows ∙ (λ i. row_rule item first row.tag row.count (a_back i) (b_back i) (c_back i)) ∙ ap (bracket_rule item first) (sym row.is)

pub returns-in-Row-clause-rows : goal.returns-in-Row-clause-rows
returns-in-Row-clause-rows c = λ first knows none.
    let row = c.in-Row in
    let a_fits : FitsSigned w128 row.a = search rules in
    let b_fits : FitsSigned w128 row.b = search rules in
    let c_fits : FitsSigned w128 row.c = search rules in
    let a_back = to_z-of_z w128 row.a a_fits in
    let b_back = to_z-of_z w128 row.b b_fits in
    let c_back = to_z-of_z w128 row.c c_fits in
    let Knows : FlatLine → Type 0 = λ line. KnowsRows c.take_row.new.self (named_cells first line) in
    subst Knows ((λ i. Row row.tag row.count (a_back i) (b_back i) (c_back i) row.e) ∙ sym row.is) (c.take_row.ensures.rows first knows none)
