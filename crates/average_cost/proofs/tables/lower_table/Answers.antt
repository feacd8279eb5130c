use Rattle.std.proofs.Common.{ℕ, List, ◌∙◌, length, slice_index, ap, arith, subst}
use Rattle.average_cost.specs.Grids.{IsPlace}
use Rattle.average_cost.specs.Turns.{ratio_of}
use Rattle.average_lemmas.specs.Entries.{length-lower}
use Rattle.value_cert.specs.AverageValues.{gain, is_zero_place, lower_entries}
use Rattle.average_cost.proofs.TableFacts.{lower_fits, lower_least, lower_more, zero_more, zero_all, no_lower, no_first}
use Rattle.average_cost.proofs.tables.lower_table.Goals as goal

pub loop-k-init : goal.loop-k-init
loop-k-init c = record { listed = no_lower c.args.item.now (ratio_of c.args.g) c.clear.new.self.items c.clear.ensures.items; zero_is = no_first (is_zero_place c.args.item.now (ratio_of c.args.g)); place_is = c.first_place-place.ensures }

pub gain_at-gain-requires-clause-many : goal.gain_at-gain-requires-clause-many
gain_at-gain-requires-clause-many c = ap length (c.deref.ensures.value ∙ c.loop-k.invariant.listed) ∙ length-lower c.args.item.now (ratio_of c.args.g) c.loop-k.k

pub gain_at-gain-requires-clause-fits : goal.gain_at-gain-requires-clause-fits
gain_at-gain-requires-clause-fits c = rw (c.deref.ensures.value, c.loop-k.invariant.listed) (lower_fits c.args.item.now c.requires.valid (ratio_of c.args.g) c.requires.cost c.loop-k.k (omega (arith, c.loop-k-test.true, c.requires.terms.count)))

pub overflow_sub-gain : goal.overflow_sub-gain
overflow_sub-gain c =
    let told = c.gain_at-gain.ensures ∙ ap (λ (zs : List ℕ). gain c.args.item.now (ratio_of c.args.g) (slice_index zs) c.loop-k.k) (c.deref.ensures.value ∙ c.loop-k.invariant.listed) in
    omega (arith, told, c.loss_at-loss.ensures.exact, lower_least c.args.item.now c.requires.valid (ratio_of c.args.g) c.requires.cost c.loop-k.k (omega (arith, c.loop-k-test.true, c.requires.terms.count)))

pub loop-k-preserved : goal.loop-k-preserved
loop-k-preserved c = record {
  listed = lower_more c.args.item.now (ratio_of c.args.g) c.loop-k.k c.loop-k.entries.items c.deref.result.now c.push.new.self.items c.gain_at-gain.result c.loss_at-loss.result c.limit_at-limit.result c.min.result c.loop-k.invariant.listed c.deref.ensures.value c.gain_at-gain.ensures c.loss_at-loss.ensures.exact c.limit_at-limit.ensures c.min.ensures c.in_ok-push.ensures.items;
  zero_is = zero_more c.args.item.now c.requires.valid (ratio_of c.args.g) c.requires.cost c.loop-k.k (omega (arith, c.loop-k-test.true, c.requires.terms.count)) c.loop-k.zero c.first_so_far-zero.result c.loop-k.entries.items c.deref.result.now c.gain_at-gain.result c.loss_at-loss.result c.loop-k.invariant.zero_is c.loop-k.invariant.listed c.deref.ensures.value c.gain_at-gain.ensures c.loss_at-loss.ensures.exact c.first_so_far-zero.ensures;
  place_is = subst (λ (j : ℕ). IsPlace c.args.item.now c.go_up.new.place j) (omega arith) c.go_up.ensures;
}

pub returns-clause-entries : goal.returns-clause-entries
returns-clause-entries c = c.loop-k.invariant.listed ∙ ap (lower_entries c.args.item.now (ratio_of c.args.g)) (omega (arith, c.loop-k-test.false, c.requires.terms.count, c.loop-k.auto.k-end))

pub returns-clause-zero : goal.returns-clause-zero
returns-clause-zero c = zero_all c.args.item.now (ratio_of c.args.g) c.loop-k.k c.loop-k.zero (omega (arith, c.loop-k-test.false, c.requires.terms.count, c.loop-k.auto.k-end)) c.loop-k.invariant.zero_is
