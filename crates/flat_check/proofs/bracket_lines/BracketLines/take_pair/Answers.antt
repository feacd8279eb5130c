use Rattle.std.proofs.Common.{ℤ, refl, subst, to_z, of_z, rules, FitsSigned}
use mir.Syntax.{w128}
use Rattle.std.proofs.lemmas.Int.{to_z-of_z}
use Rattle.value_cert.specs.BracketRules.{named_pair}
use Rattle.flat_check.specs.BracketKnown.{KnowsCells}
use Rattle.flat_check.proofs.bracket_lines.BracketLines.take_pair.Goals as goal

pub returns-clause-rows : goal.returns-clause-rows
returns-clause-rows c = λ first knows none.
    let row = c.args.row.now in
    let first_fits : FitsSigned w128 row.first = search rules in
    let second_fits : FitsSigned w128 row.second = search rules in
    let Knows : ℤ → ℤ → Type 0 = λ a b. KnowsCells c.take_pair.new.self (named_pair first a b) in
    record {
      rows = refl;
      cells = subst (λ (a : ℤ). Knows a row.second) (to_z-of_z w128 row.first first_fits)
          (subst (λ (b : ℤ). Knows (to_z w128 (of_z w128 row.first)) b) (to_z-of_z w128 row.second second_fits) (c.if-not-take_pair.ensures.cells first knows.cells refl));
    }
