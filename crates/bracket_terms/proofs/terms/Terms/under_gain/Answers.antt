use Rattle.std.proofs.Common.{◌∙◌, length, slice_index, arith}
use Rattle.bracket_terms.proofs.SizeFacts.{gain_most, under_whole, past_most}
use Rattle.bracket_terms.specs.Known.{item_of, wide_of}
use Rattle.bracket_terms.proofs.terms.Terms.under_gain.Goals as goal

pub past-after-requires : goal.past-after-requires
past-after-requires c = let terms = c.args.self.now in past_most (item_of terms) (wide_of terms) (length c.args.entries.now) terms.sizes.setup c.requires.within (slice_index c.args.entries.now) c.requires.small terms.sizes_are.setup

pub add_product-requires : goal.add_product-requires
add_product-requires c =
    let terms = c.args.self.now in
    let whole = under_whole (item_of terms) terms.sizes.total c.low_at-low.result c.past-after.result terms.sizes.setup (length c.args.entries.now) (slice_index c.args.entries.now) terms.sizes_are.total c.low_at-low.ensures c.past-after.ensures terms.sizes_are.setup in
    omega (arith, whole, gain_most (item_of terms) (wide_of terms) (length c.args.entries.now) c.requires.within (slice_index c.args.entries.now) c.requires.small)

pub returns-clause-exact : goal.returns-clause-exact
returns-clause-exact c =
    let terms = c.args.self.now in
    c.add_product.ensures ∙ under_whole (item_of terms) terms.sizes.total c.low_at-low.result c.past-after.result terms.sizes.setup (length c.args.entries.now) (slice_index c.args.entries.now) terms.sizes_are.total c.low_at-low.ensures c.past-after.ensures terms.sizes_are.setup

pub returns-clause-small : goal.returns-clause-small
returns-clause-small c =
    let terms = c.args.self.now in
    let whole = under_whole (item_of terms) terms.sizes.total c.low_at-low.result c.past-after.result terms.sizes.setup (length c.args.entries.now) (slice_index c.args.entries.now) terms.sizes_are.total c.low_at-low.ensures c.past-after.ensures terms.sizes_are.setup in
    omega (arith, c.add_product.ensures, whole, gain_most (item_of terms) (wide_of terms) (length c.args.entries.now) c.requires.within (slice_index c.args.entries.now) c.requires.small)
