use Rattle.bracket_terms.specs.Known.{item_of, wide_of}
use Rattle.flat_check.proofs.EntryFits.{over_fits}
use Rattle.flat_check.proofs.bracket_entries.is_kept.Goals as goal

pub add_product-requires : goal.add_product-requires
add_product-requires c =
    over_fits (item_of c.args.terms.now) (wide_of c.args.terms.now) c.sizes.result.moving c.args.entry c.loss_of.result c.sizes.ensures.all_moving c.loss_of.ensures.small c.requires.entry
