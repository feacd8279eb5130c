use Rattle.std.proofs.Common.{◌+◌, length, arith, ap}
use Rattle.bracket_cost.proofs.UpperFacts.{entries_length, passes_told}
use Rattle.bracket_terms.specs.Known.{item_of, wide_of}
use Rattle.bracket_cost.proofs.upper.try_upper.Goals as goal

pub entry_at-requires : goal.entry_at-requires
entry_at-requires c = omega (arith, ap length c.deref.ensures.value, entries_length (item_of c.args.terms.now) (wide_of c.args.terms.now) c.args.pair.orders c.args.g (c.args.pair.high + 1) c.sweep_over.new.entries.items c.in_ok-sweep_over.ensures)

pub returns : goal.returns
returns c = passes_told (item_of c.args.terms.now) c.args.pair.orders c.args.g c.args.pair.high c.entry_at.result c.sizes.result.raise c.sweep_over.new.entries.items c.deref.result.now c.in_ok-sweep_over.ensures c.deref.ensures.value c.entry_at.ensures c.sizes.ensures.raise
