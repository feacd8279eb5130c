use Rattle.std.proofs.Common.{◌≡◌, ◌∙◌, ◌+◌, ◌*◌, ◌+ℤ◌, pos, sym, ap, arith, rules, FitsSigned}
use Rattle.std.proofs.lemmas.Int.{ints, to_z-of_z}
use Rattle.std.specs.Prelude.{unsigned_abs, int_le}
use mir.Syntax.{w128}
use Rattle.bracket_lemmas.specs.CheckRows.{over_rule}
use Rattle.bracket_lemmas.specs.WideSizes.{raise_small}
use Rattle.bracket_terms.specs.Known.{item_of, wide_of}
use Rattle.flat_check.proofs.bracket_entries.is_over_entry.Goals as goal

pub raised-requires-clause-raise : goal.raised-requires-clause-raise
raised-requires-clause-raise c = omega (arith, raise_small (item_of c.args.terms.now) (wide_of c.args.terms.now), c.sizes-raise.ensures.raise)

pub returns-clause-rule : goal.returns-clause-rule
returns-clause-rule c = λ first are.
    let row = c.args.row.now in
    let entry_fits : FitsSigned w128 row.over = search rules in
    let at_fits : FitsSigned w128 row.at = search rules in
    let entry_back = to_z-of_z w128 row.over entry_fits in
    let at_back = to_z-of_z w128 row.at at_fits in
    let low_back = to_z-of_z w128 c.args.low c.ranges.low in
    c.is_kept.ensures
    ∙ over_rule (item_of c.args.terms.now) c.args.upper c.args.low c.args.over.now first c.raised.result row.at row.over are (c.raised.ensures.exact ∙ (λ i. row.over +ℤ pos (c.sizes-raise.ensures.raise i))) (sym (λ i. int_le (at_back i) (low_back i)) ∙ c.if-row-low.false)
    (omega (arith, c.if-unsigned_abs-raise.false, c.unsigned_abs.ensures.value, ap unsigned_abs entry_back, c.sizes-raise.ensures.raise))
