use Rattle.std.proofs.Common.{ℕ, ◌∙◌, sym, arith, subst}
use Rattle.average_cost.specs.Grids.{IsPlace}
use Rattle.average_cost.specs.Turns.{ratio_of}
use Rattle.value_cert.specs.AverageValues.{is_cheap}
use Rattle.average_cost.proofs.TableFacts.{cheap_found, cheap_absent, fails_more}
use Rattle.average_cost.proofs.tables.first_cheap.Goals as goal

pub returns-then-is_cheap_at : goal.returns-then-is_cheap_at
returns-then-is_cheap_at c = cheap_found c.args.item.now (ratio_of c.args.g) c.loop-k.k c.loop-k.invariant.none (sym c.is_cheap_at.ensures ∙ c.if-is_cheap_at.true) (omega (arith, c.loop-k-test.true, c.requires.terms.count))

pub loop-k-preserved : goal.loop-k-preserved
loop-k-preserved c = record { none = fails_more (is_cheap c.args.item.now (ratio_of c.args.g)) c.loop-k.k c.loop-k.invariant.none (sym c.is_cheap_at.ensures ∙ c.if-is_cheap_at.false); place_is = subst (λ (j : ℕ). IsPlace c.args.item.now c.go_up.new.place j) (omega arith) c.go_up.ensures }

pub returns : goal.returns
returns c = cheap_absent c.args.item.now (ratio_of c.args.g) c.args.terms.now.count c.requires.terms.count (λ j lt. c.loop-k.invariant.none j (omega (arith, lt, c.loop-k-test.false)))
