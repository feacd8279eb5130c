use Rattle.std.proofs.Common.{◌≡◌, ◌+◌, ◌*◌, ◌<◌, ◌≤◌, ℕ, List, [], ◌∷◌, ◌++◌, ◌+ℤ◌, pos, length, take, sym, ◌∙◌, ap, subst, arith, rules, FitsSigned}
use Rattle.std.specs.Prelude.{unsigned_abs}
use mir.Syntax.{w128}
use Rattle.std.proofs.lemmas.Int.{to_z-of_z}
use Rattle.std.proofs.lemmas.List.{take_more_set}
use Rattle.bracket_lemmas.specs.CheckRows.{AreRaised}
use Rattle.bracket_lemmas.specs.WideSizes.{raise_small}
use Rattle.bracket_terms.specs.Known.{item_of, wide_of}
use Rattle.decision_model.specs.Average.{average_positions}
use Rattle.value_cert.specs.BracketValues.{most_over}
use Rattle.flat_check.proofs.CheckSteps.{raised_behind}
use Rattle.flat_check.proofs.bracket_cells.BracketCells.keep.Goals as goal

pub raised-over-requires-clause-raise : goal.raised-over-requires-clause-raise
raised-over-requires-clause-raise c = omega (arith, raise_small (item_of c.args.self.now.terms) (wide_of c.args.self.now.terms), c.sizes.ensures.raise)

pub returns-clause-cells : goal.returns-clause-cells
returns-clause-cells c = λ first knows.
    let r = c.args.self.now in
    let row = c.args.row.now in
    let item = item_of r.terms in
    let fits : FitsSigned w128 row.under = search rules in
    let under_is = c.unsigned_abs.ensures.value ∙ ap unsigned_abs (to_z-of_z w128 row.under fits) in
    let in_under : r.count < length r.under.items = omega (arith, c.requires.left, r.tables.all_under) in
    let in_over : r.count < length r.over.items = omega (arith, c.requires.left, r.tables.all_over) in
    record {
      lower_is = knows.lower_is;
      upper_is = knows.upper_is;
      low_is = knows.low_is;
      high_is = knows.high_is;
      under_are = take_more_set r.under.items r.count c.unsigned_abs.result in_under ∙ (λ i. knows.under_are i ++ under_is i ∷ []);
      over_are = subst (λ (xs : List ℕ). AreRaised (most_over item (average_positions item)) xs (first.over ++ row.over ∷ [])) (sym (take_more_set r.over.items r.count c.raised-over.result in_over))
          (raised_behind (most_over item (average_positions item)) (take r.count r.over.items) first.over c.raised-over.result row.over knows.over_are (c.raised-over.ensures.exact ∙ (λ i. row.over +ℤ pos (c.sizes.ensures.raise i))));
    }
