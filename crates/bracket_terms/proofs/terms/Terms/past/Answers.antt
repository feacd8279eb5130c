use Rattle.std.proofs.Common.{◌∙◌, length, slice_index, arith}
use Rattle.bracket_terms.proofs.SizeFacts.{past_told}
use Rattle.bracket_terms.specs.Known.{item_of}
use Rattle.bracket_terms.proofs.terms.Terms.past.Goals as goal

pub weigh-requires : goal.weigh-requires
weigh-requires c = let terms = c.args.self.now in omega (arith, c.requires, past_told (item_of terms) terms.moves.items terms.moves_are c.deref.result.now c.deref.ensures.value c.args.below (slice_index c.args.entries.now) (length c.args.entries.now))

pub returns : goal.returns
returns c = let terms = c.args.self.now in c.weigh.ensures ∙ past_told (item_of terms) terms.moves.items terms.moves_are c.deref.result.now c.deref.ensures.value c.args.below (slice_index c.args.entries.now) (length c.args.entries.now)
