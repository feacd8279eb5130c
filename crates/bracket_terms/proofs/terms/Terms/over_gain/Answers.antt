use Rattle.std.proofs.Common.{◌∙◌, length, slice_index, arith}
use Rattle.bracket_terms.proofs.SizeFacts.{over_most, over_whole, raised_past_most}
use Rattle.bracket_terms.specs.Known.{item_of, wide_of}
use Rattle.bracket_terms.proofs.terms.Terms.over_gain.Goals as goal

pub past-after-requires : goal.past-after-requires
past-after-requires c = let terms = c.args.self.now in raised_past_most (item_of terms) (wide_of terms) (length c.args.entries.now) c.raised_setup.result c.requires.within (slice_index c.args.entries.now) c.requires.small c.raised_setup.ensures.exact

pub add_product-requires : goal.add_product-requires
add_product-requires c =
    let terms = c.args.self.now in
    let whole = over_whole (item_of terms) terms.sizes.total c.up_at-up.result c.past-after.result c.raised_setup.result (length c.args.entries.now) (slice_index c.args.entries.now) terms.sizes_are.total c.up_at-up.ensures c.past-after.ensures c.raised_setup.ensures.exact in
    omega (arith, whole, over_most (item_of terms) (wide_of terms) (length c.args.entries.now) c.requires.within (slice_index c.args.entries.now) c.requires.small)

pub returns-clause-exact : goal.returns-clause-exact
returns-clause-exact c =
    let terms = c.args.self.now in
    c.add_product.ensures ∙ over_whole (item_of terms) terms.sizes.total c.up_at-up.result c.past-after.result c.raised_setup.result (length c.args.entries.now) (slice_index c.args.entries.now) terms.sizes_are.total c.up_at-up.ensures c.past-after.ensures c.raised_setup.ensures.exact

pub returns-clause-small : goal.returns-clause-small
returns-clause-small c =
    let terms = c.args.self.now in
    let whole = over_whole (item_of terms) terms.sizes.total c.up_at-up.result c.past-after.result c.raised_setup.result (length c.args.entries.now) (slice_index c.args.entries.now) terms.sizes_are.total c.up_at-up.ensures c.past-after.ensures c.raised_setup.ensures.exact in
    omega (arith, c.add_product.ensures, whole, over_most (item_of terms) (wide_of terms) (length c.args.entries.now) c.requires.within (slice_index c.args.entries.now) c.requires.small)
