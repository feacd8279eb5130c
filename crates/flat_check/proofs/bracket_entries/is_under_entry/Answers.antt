use Rattle.std.proofs.Common.{◌≡◌, ◌∙◌, ◌+◌, ◌*◌, nat_le, ap, arith, rules, FitsSigned}
use Rattle.std.proofs.lemmas.Int.{ints, to_z-of_z}
use Rattle.std.specs.Prelude.{unsigned_abs}
use mir.Syntax.{w128}
use Rattle.bracket_lemmas.specs.CheckRows.{under_rule}
use Rattle.bracket_terms.specs.Known.{item_of, wide_of}
use Rattle.flat_check.proofs.EntryFits.{under_fits}
use Rattle.flat_check.proofs.bracket_entries.is_under_entry.Goals as goal

pub add_product-requires : goal.add_product-requires
add_product-requires c =
    under_fits (item_of c.args.terms.now) (wide_of c.args.terms.now) c.sizes-sizes.result.moving c.unsigned_abs-entry.result c.loss_of.result
    c.sizes-sizes.ensures.all_moving c.loss_of.ensures.small (omega (arith, c.if-entry-sizes.false, c.sizes-sizes.ensures.setup))

pub returns-clause-rule : goal.returns-clause-rule
returns-clause-rule c =
    let entry = c.args.row.now.under in
    let fits : FitsSigned w128 entry = search rules in
    let back = to_z-of_z w128 entry fits in
    (λ i. nat_le ((c.add_product.ensures ∙ (λ j. c.sizes-sizes.ensures.all_moving j * c.unsigned_abs-entry.result + c.loss_of.ensures.exact j)) i) (c.under_gain.ensures.exact i))
    ∙ under_rule (item_of c.args.terms.now) c.args.lower c.args.under.now entry c.unsigned_abs-entry.result (c.unsigned_abs-entry.ensures.value ∙ ap unsigned_abs back) (omega (arith, ints, c.if-row-lt0.false, back)) (omega (arith, c.if-entry-sizes.false, c.sizes-sizes.ensures.setup))
