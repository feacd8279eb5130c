use Rattle.std.proofs.Common.{◌≡◌, ◌∙◌, ap, sym, subst, arith}
use Rattle.demand_law.specs.Law.{IsLaw}
use Rattle.demand_law.specs.Sequences.{laws_at, greatest_sum}
use Rattle.demand_law.specs.ServedLaws.{greatest_sum-laws_at}
use Rattle.demand_law.proofs.Leads.{width_more, laws_more, width_within}
use Rattle.demand_law.proofs.sums.lead_width.Goals as goal

pub overflow_add-width : goal.overflow_add-width
overflow_add-width c =
    let here = c.weights.ensures.weights ∙ c.law_of.ensures in
    let is = width_more c.args.laws.now c.args.from c.loop-place.place c.weights.result.now here c.loop-place.width c.loop-place.invariant.0 in
    omega (arith, is, width_within c.args.laws.now c.args.from c.loop-place.place c.args.count c.requires.serves c.loop-place-test.true c.requires.short)

pub loop-place-preserved : goal.loop-place-preserved
loop-place-preserved c =
    let here = c.weights.ensures.weights ∙ c.law_of.ensures in (
      width_more c.args.laws.now c.args.from c.loop-place.place c.weights.result.now here c.loop-place.width c.loop-place.invariant.0,
      laws_more c.args.laws.now c.args.from c.loop-place.place c.weights.result.now here (subst IsLaw (sym c.weights.ensures.weights) c.weights.ensures.law) c.loop-place.invariant.1,
    )

pub returns-clause-within : goal.returns-clause-within
returns-clause-within c =
    let all : c.loop-place.place ≡ c.args.count = omega arith in
    omega (arith, ap (λ n. greatest_sum (laws_at c.args.laws.now c.args.from n)) all, greatest_sum-laws_at c.args.laws.now c.args.from c.args.count c.requires.serves)
