use Rattle.std.proofs.Common.{◌∙◌, length, arith, ap}
use Rattle.bracket_cost.proofs.UpperFacts.{entries_length, entries_small, gain_here, entry_more, none_yet}
use Rattle.bracket_terms.specs.Known.{item_of, wide_of}
use Rattle.bracket_cost.proofs.upper.sweep_over.Goals as goal

pub loop-k-init : goal.loop-k-init
loop-k-init c = none_yet (item_of c.args.terms.now) (wide_of c.args.terms.now) c.args.orders c.args.g c.clear.new.self.items c.clear.ensures.items

pub over_gain-gain-requires-clause-within : goal.over_gain-gain-requires-clause-within
over_gain-gain-requires-clause-within c = omega (arith, ap length c.deref.ensures.value, entries_length (item_of c.args.terms.now) (wide_of c.args.terms.now) c.args.orders c.args.g c.loop-k.k c.loop-k.entries.items c.loop-k.invariant, c.loop-k-test.true, c.requires.within)

pub over_gain-gain-requires-clause-small : goal.over_gain-gain-requires-clause-small
over_gain-gain-requires-clause-small c = entries_small (item_of c.args.terms.now) (wide_of c.args.terms.now) c.args.orders c.args.g c.loop-k.k (omega (arith, c.loop-k-test.true, c.requires.within)) c.deref.result.now (c.deref.ensures.value ∙ c.loop-k.invariant)

pub loop-k-preserved : goal.loop-k-preserved
loop-k-preserved c =
    let here = gain_here (item_of c.args.terms.now) (wide_of c.args.terms.now) c.args.orders c.args.g c.loop-k.k c.over_gain-gain.result c.loop-k.entries.items c.deref.result.now c.loop-k.invariant c.deref.ensures.value c.over_gain-gain.ensures.exact in
    entry_more (item_of c.args.terms.now) (wide_of c.args.terms.now) c.args.orders c.args.g c.loop-k.k c.over_gain-gain.result c.loss_of-loss.result c.sizes-moving.result.moving c.raised_setup-below.result c.over_entry.result c.loop-k.entries.items c.push.new.self.items c.loop-k.invariant here c.loss_of-loss.ensures.exact c.sizes-moving.ensures.all_moving c.raised_setup-below.ensures.exact c.over_entry.ensures c.in_ok-push.ensures.items
