use Rattle.std.proofs.Common.{◌∙◌, min, length, slice_index, arith, ap}
use Rattle.decision_model.specs.Average.{average_positions}
use Rattle.bracket_lemmas.specs.BracketSolved.{under_entries, under_worth}
use Rattle.bracket_lemmas.specs.WideSizes.{some_place}
use Rattle.bracket_cost.proofs.LowerFacts.{entries_small, entries_length, gain_here, entry_more, none_yet, no_best, best_more, high_told, worth_here, loss_less, min_turned}
use Rattle.bracket_terms.specs.Known.{item_of, wide_of}
use Rattle.bracket_cost.proofs.lower.lower_table.Goals as goal

pub loop-k-init : goal.loop-k-init
loop-k-init c = record {
  listed = none_yet (item_of c.args.terms.now) (wide_of c.args.terms.now) c.args.g c.clear.new.self.items c.clear.ensures.items;
  best_is = no_best (under_worth (item_of c.args.terms.now) c.args.g (slice_index (under_entries (item_of c.args.terms.now) c.args.g (average_positions (item_of c.args.terms.now))))) (record { place = 0; worth = 0 });
}

pub under_gain-gain-requires-clause-within : goal.under_gain-gain-requires-clause-within
under_gain-gain-requires-clause-within c = omega (arith, ap length c.deref.ensures.value, entries_length (item_of c.args.terms.now) (wide_of c.args.terms.now) c.args.g c.loop-k.k c.loop-k.entries.items c.loop-k.invariant.listed, c.loop-k-test.true, c.sizes-sizes.ensures.count)

pub under_gain-gain-requires-clause-small : goal.under_gain-gain-requires-clause-small
under_gain-gain-requires-clause-small c = entries_small (item_of c.args.terms.now) (wide_of c.args.terms.now) c.args.g c.loop-k.k c.deref.result.now (c.deref.ensures.value ∙ c.loop-k.invariant.listed)

pub worth_of-worth-requires-clause-fits : goal.worth_of-worth-requires-clause-fits
worth_of-worth-requires-clause-fits c =
    let here = gain_here (item_of c.args.terms.now) (wide_of c.args.terms.now) c.args.g c.loop-k.k c.under_gain-gain.result c.loop-k.entries.items c.deref.result.now c.loop-k.invariant.listed c.deref.ensures.value c.under_gain-gain.ensures.exact in
    loss_less (item_of c.args.terms.now) (wide_of c.args.terms.now) c.args.g c.loop-k.k c.under_gain-gain.result c.loss_of-loss.result (omega (arith, c.loop-k-test.true, c.sizes-sizes.ensures.count)) here c.loss_of-loss.ensures.exact c.requires.passes

pub loop-k-preserved : goal.loop-k-preserved
loop-k-preserved c =
    let item = (item_of c.args.terms.now) in
    let here = gain_here item (wide_of c.args.terms.now) c.args.g c.loop-k.k c.under_gain-gain.result c.loop-k.entries.items c.deref.result.now c.loop-k.invariant.listed c.deref.ensures.value c.under_gain-gain.ensures.exact in
    let worth = worth_here item (wide_of c.args.terms.now) c.args.g c.loop-k.k c.under_gain-gain.result c.loss_of-loss.result c.sizes-sizes.result.moving c.worth_of-worth.result (omega (arith, c.loop-k-test.true, c.sizes-sizes.ensures.count)) here c.loss_of-loss.ensures.exact c.sizes-sizes.ensures.all_moving c.worth_of-worth.ensures in
    record {
      listed = entry_more item (wide_of c.args.terms.now) c.args.g c.loop-k.k c.under_gain-gain.result c.loss_of-loss.result c.sizes-sizes.result.moving c.sizes-sizes.result.setup c.min.result c.loop-k.entries.items c.push.new.self.items c.loop-k.invariant.listed here c.loss_of-loss.ensures.exact c.sizes-sizes.ensures.all_moving c.sizes-sizes.ensures.setup
          (c.min.ensures ∙ min_turned c.worth_of-worth.result c.sizes-sizes.result.setup ∙ ap (min c.sizes-sizes.result.setup) c.worth_of-worth.ensures) c.in_ok-push.ensures.items;
      best_is = best_more (under_worth item c.args.g (slice_index (under_entries item c.args.g (average_positions item)))) c.loop-k.k c.worth_of-worth.result c.loop-k.best c.better-best.result c.loop-k.invariant.best_is worth c.better-best.ensures;
    }

pub returns-clause-high : goal.returns-clause-high
returns-clause-high c =
    let item = (item_of c.args.terms.now) in
    high_told (under_worth item c.args.g (slice_index (under_entries item c.args.g (average_positions item)))) (average_positions item) c.loop-k.k c.loop-k.best c.loop-k.invariant.best_is (omega (arith, c.loop-k-test.false, c.sizes-sizes.ensures.count, c.loop-k.auto.k-end)) (some_place item (wide_of c.args.terms.now))
