use Rattle.std.proofs.Common.{ℕ, List, ◌∙◌, length, slice_index, ap, arith, subst}
use Rattle.average_cost.specs.Grids.{IsPlace}
use Rattle.average_cost.specs.Turns.{ratio_of}
use Rattle.average_lemmas.specs.Entries.{length-upper}
use Rattle.value_cert.specs.AverageRules.{first_cheap}
use Rattle.value_cert.specs.AverageValues.{at_place, gain, upper_entries}
use Rattle.std.specs.Prelude.{pos, ◌-ℤ◌}
use Rattle.average_cost.proofs.TableFacts.{upper_fits, upper_least, upper_more, no_upper}
use Rattle.average_cost.proofs.tables.upper_table.Goals as goal

pub loop-k-init : goal.loop-k-init
loop-k-init c = record { listed = no_upper c.args.item.now (ratio_of c.args.g) (first_cheap c.args.item.now (ratio_of c.args.g)) c.clear.new.self.items c.clear.ensures.items; place_is = c.first_place-place.ensures }

pub gain_at-gain-requires-clause-many : goal.gain_at-gain-requires-clause-many
gain_at-gain-requires-clause-many c = ap length (c.deref.ensures.value ∙ c.loop-k.invariant.listed) ∙ length-upper c.args.item.now (ratio_of c.args.g) (at_place c.args.item.now (first_cheap c.args.item.now (ratio_of c.args.g)) -ℤ pos 1) c.loop-k.k

pub gain_at-gain-requires-clause-fits : goal.gain_at-gain-requires-clause-fits
gain_at-gain-requires-clause-fits c = rw (c.deref.ensures.value, c.loop-k.invariant.listed) (upper_fits c.args.item.now c.requires.valid (ratio_of c.args.g) c.requires.cost (first_cheap c.args.item.now (ratio_of c.args.g)) c.loop-k.k (omega (arith, c.loop-k-test.true, c.requires.terms.count)))

pub upper_at-requires : goal.upper_at-requires
upper_at-requires c =
    let told = c.gain_at-gain.ensures ∙ ap (λ (zs : List ℕ). gain c.args.item.now (ratio_of c.args.g) (slice_index zs) c.loop-k.k) (c.deref.ensures.value ∙ c.loop-k.invariant.listed) in
    omega (arith, told, c.loss_at-loss.ensures.exact, upper_least c.args.item.now c.requires.valid (ratio_of c.args.g) c.requires.cost (first_cheap c.args.item.now (ratio_of c.args.g)) c.loop-k.k (omega (arith, c.loop-k-test.true, c.requires.terms.count)))

pub loop-k-preserved : goal.loop-k-preserved
loop-k-preserved c = record {
  listed = upper_more c.args.item.now (ratio_of c.args.g) (first_cheap c.args.item.now (ratio_of c.args.g)) c.loop-k.k c.args.first c.requires.first c.loop-k.entries.items c.deref.result.now c.push.new.self.items c.gain_at-gain.result c.loss_at-loss.result c.limit_at-limit.result c.upper_at.result c.loop-k.invariant.listed c.deref.ensures.value c.gain_at-gain.ensures c.loss_at-loss.ensures.exact c.limit_at-limit.ensures c.upper_at.ensures c.in_ok-push.ensures.items;
  place_is = subst (λ (j : ℕ). IsPlace c.args.item.now c.go_up.new.place j) (omega arith) c.go_up.ensures;
}

pub returns : goal.returns
returns c = c.loop-k.invariant.listed ∙ ap (upper_entries c.args.item.now (ratio_of c.args.g) (at_place c.args.item.now (first_cheap c.args.item.now (ratio_of c.args.g)) -ℤ pos 1)) (omega (arith, c.loop-k-test.false, c.requires.terms.count, c.loop-k.auto.k-end))
