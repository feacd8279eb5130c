use Rattle.std.proofs.Common.{◌-◌, ◌*◌, ◌^◌, length, sum, sym, ◌∙◌, ap, arith}
use Rattle.demand_law.specs.CountedSums.{counted}
use Rattle.decision_model.specs.Average.{average_positions}
use Rattle.value_cert.specs.AverageValues.{moving, at_place, stock_sum, gain}
use Rattle.average_recursion.specs.Entries.{after, entry_at}
use Rattle.average_recursion.specs.Rows.{ratio_of, value_below}
use Rattle.average_recursion.proofs.GainSteps.{later_told, whole_told}
use Rattle.average_recursion.proofs.Numbers.{gain_is, gain_most, most_small}
use Rattle.average_recursion.proofs.entries.gain_at.Goals as goal

pub weigh-later-requires-clause-fits : goal.weigh-later-requires-clause-fits
weigh-later-requires-clause-fits c =
    let item = c.args.average.now in
    let g = ratio_of c.args.rate.now in
    let k = c.args.place.now.count in
    let later = later_told item c.args.laws.now c.args.sums.now c.requires.laws c.moving_weights.result.now c.moving_weights.ensures (entry_at c.args.cells.now) c.args.rate.now.below (value_below item g) (length c.args.cells.now) k c.requires.rate.below c.requires.cells in
    omega (arith, later, gain_most item c.requires.valid g c.requires.rate.small (entry_at c.args.cells.now) k c.requires.within c.requires.small, most_small item c.requires.valid g c.requires.rate.small k c.requires.within)

pub add_weighed-requires : goal.add_weighed-requires
add_weighed-requires c =
    let item = c.args.average.now in
    let g = ratio_of c.args.rate.now in
    let k = c.args.place.now.count in
    let later = later_told item c.args.laws.now c.args.sums.now c.requires.laws c.moving_weights.result.now c.moving_weights.ensures (entry_at c.args.cells.now) c.args.rate.now.below (value_below item g) (length c.args.cells.now) k c.requires.rate.below c.requires.cells in
    let whole = whole_told c.weigh-later.result (counted (moving item.law) (after (entry_at c.args.cells.now) (value_below item g) k)) c.args.rate.now.stock (g.den * sum (moving item.law) ^ (average_positions item - 1)) c.stock_at.result (stock_sum item (at_place item k)) (c.weigh-later.ensures ∙ later) c.requires.rate.stock c.stock_at.ensures in
    omega (arith, whole, gain_most item c.requires.valid g c.requires.rate.small (entry_at c.args.cells.now) k c.requires.within c.requires.small, most_small item c.requires.valid g c.requires.rate.small k c.requires.within)

pub returns-clause-exact : goal.returns-clause-exact
returns-clause-exact c = λ a are.
    let item = c.args.average.now in
    let g = ratio_of c.args.rate.now in
    let k = c.args.place.now.count in
    let later = later_told item c.args.laws.now c.args.sums.now c.requires.laws c.moving_weights.result.now c.moving_weights.ensures (entry_at c.args.cells.now) c.args.rate.now.below (value_below item g) (length c.args.cells.now) k c.requires.rate.below c.requires.cells in
    let whole = whole_told c.weigh-later.result (counted (moving item.law) (after (entry_at c.args.cells.now) (value_below item g) k)) c.args.rate.now.stock (g.den * sum (moving item.law) ^ (average_positions item - 1)) c.stock_at.result (stock_sum item (at_place item k)) (c.weigh-later.ensures ∙ later) c.requires.rate.stock c.stock_at.ensures in
    c.add_weighed.ensures ∙ whole ∙ gain_is item c.requires.valid g (entry_at c.args.cells.now) a k c.requires.within are ∙ ap (λ p. gain item g a k * p) (sym (c.requires.place.power c.requires.within))

pub returns-clause-small : goal.returns-clause-small
returns-clause-small c =
    let item = c.args.average.now in
    let g = ratio_of c.args.rate.now in
    let k = c.args.place.now.count in
    let later = later_told item c.args.laws.now c.args.sums.now c.requires.laws c.moving_weights.result.now c.moving_weights.ensures (entry_at c.args.cells.now) c.args.rate.now.below (value_below item g) (length c.args.cells.now) k c.requires.rate.below c.requires.cells in
    let whole = whole_told c.weigh-later.result (counted (moving item.law) (after (entry_at c.args.cells.now) (value_below item g) k)) c.args.rate.now.stock (g.den * sum (moving item.law) ^ (average_positions item - 1)) c.stock_at.result (stock_sum item (at_place item k)) (c.weigh-later.ensures ∙ later) c.requires.rate.stock c.stock_at.ensures in
    omega (arith, c.add_weighed.ensures, whole, gain_most item c.requires.valid g c.requires.rate.small (entry_at c.args.cells.now) k c.requires.within c.requires.small)
