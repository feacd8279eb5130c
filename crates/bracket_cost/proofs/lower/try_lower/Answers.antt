use Rattle.std.proofs.Common.{◌∙◌, length, slice_index, arith, ap, sym}
use Rattle.decision_model.specs.Average.{average_positions}
use Rattle.bracket_lemmas.specs.BracketSolved.{fits_under, under_entries}
use Rattle.bracket_lemmas.specs.Searches.{all_none}
use Rattle.bracket_lemmas.specs.WideSizes.{some_moving}
use Rattle.bracket_cost.proofs.LowerFacts.{entries_small, entries_length, gain_here, entry_more, place_fails, place_passes, none_yet}
use Rattle.bracket_terms.specs.Known.{item_of, wide_of}
use Rattle.bracket_cost.proofs.lower.try_lower.Goals as goal

pub loop-k-init : goal.loop-k-init
loop-k-init c = record {
  listed = none_yet (item_of c.args.terms.now) (wide_of c.args.terms.now) c.args.g c.clear.new.self.items c.clear.ensures.items;
  passes = all_none (fits_under (item_of c.args.terms.now) c.args.g (slice_index (under_entries (item_of c.args.terms.now) c.args.g (average_positions (item_of c.args.terms.now)))));
}

pub under_gain-gain-requires-clause-within : goal.under_gain-gain-requires-clause-within
under_gain-gain-requires-clause-within c = omega (arith, ap length c.deref.ensures.value, entries_length (item_of c.args.terms.now) (wide_of c.args.terms.now) c.args.g c.loop-k.k c.loop-k.entries.items c.loop-k.invariant.listed, c.loop-k-test.true, c.sizes-sizes.ensures.count)

pub under_gain-gain-requires-clause-small : goal.under_gain-gain-requires-clause-small
under_gain-gain-requires-clause-small c = entries_small (item_of c.args.terms.now) (wide_of c.args.terms.now) c.args.g c.loop-k.k c.deref.result.now (c.deref.ensures.value ∙ c.loop-k.invariant.listed)

pub returns-then-gain-loss : goal.returns-then-gain-loss
returns-then-gain-loss c =
    let here = gain_here (item_of c.args.terms.now) (wide_of c.args.terms.now) c.args.g c.loop-k.k c.under_gain-gain.result c.loop-k.entries.items c.deref.result.now c.loop-k.invariant.listed c.deref.ensures.value c.under_gain-gain.ensures.exact in
    sym (place_fails (item_of c.args.terms.now) (wide_of c.args.terms.now) c.args.g c.loop-k.k c.under_gain-gain.result c.loss_of-loss.result (omega (arith, c.loop-k-test.true, c.sizes-sizes.ensures.count)) here c.loss_of-loss.ensures.exact c.if-gain-loss.true)

pub loop-k-preserved : goal.loop-k-preserved
loop-k-preserved c =
    let here = gain_here (item_of c.args.terms.now) (wide_of c.args.terms.now) c.args.g c.loop-k.k c.under_gain-gain.result c.loop-k.entries.items c.deref.result.now c.loop-k.invariant.listed c.deref.ensures.value c.under_gain-gain.ensures.exact in
    record {
      listed = entry_more (item_of c.args.terms.now) (wide_of c.args.terms.now) c.args.g c.loop-k.k c.under_gain-gain.result c.loss_of-loss.result c.sizes-sizes.result.moving c.sizes-sizes.result.setup c.entry_of.result c.loop-k.entries.items c.push.new.self.items c.loop-k.invariant.listed here c.loss_of-loss.ensures.exact c.sizes-sizes.ensures.all_moving c.sizes-sizes.ensures.setup c.entry_of.ensures c.in_ok-push.ensures.items;
      passes = place_passes (item_of c.args.terms.now) (wide_of c.args.terms.now) c.args.g c.loop-k.k c.under_gain-gain.result c.loss_of-loss.result (omega (arith, c.loop-k-test.true, c.sizes-sizes.ensures.count)) here c.loss_of-loss.ensures.exact c.if-gain-loss.false c.loop-k.invariant.passes;
    }

pub entry_of-requires-clause-some : goal.entry_of-requires-clause-some
entry_of-requires-clause-some c = omega (arith, c.sizes-sizes.ensures.all_moving, some_moving (item_of c.args.terms.now) (wide_of c.args.terms.now))
