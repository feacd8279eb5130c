use Rattle.std.proofs.Common.{◌≡◌, ◌+◌, ◌*◌, ◌∙◌, ap, arith, rules}
use Rattle.demand_law.specs.Sequences.{laws_at, totals_of}
use Rattle.demand_law.specs.ServedLaws.{totals_of-laws_at_le}
use Rattle.demand_law.proofs.Leads.{totals_more}
use Rattle.demand_law.proofs.sums.totals_fit.Goals as goal

pub returns-then-not-product_fits : goal.returns-then-not-product_fits
returns-then-not-product_fits c =
    let laws = c.args.laws.now in
    let place = c.loop-place.place in
    let is : c.loop-place.product * c.total-total.result ≡ totals_of (laws_at laws c.args.from (place + 1)) = ap (λ t. c.loop-place.product * t) c.total-total.ensures ∙ totals_more laws c.args.from place c.law_of.result.now c.law_of.ensures c.loop-place.product c.loop-place.invariant.0 in
    let le = totals_of-laws_at_le laws c.args.from (place + 1) c.args.count (omega arith) c.requires.are_laws in
    (λ no. cc, λ fits. c.if-not-product_fits.ensures.1 (omega (arith, is, le, fits)))

pub loop-place-preserved : goal.loop-place-preserved
loop-place-preserved c = (
  ap (λ t. c.loop-place.product * t) c.total-total.ensures ∙ totals_more c.args.laws.now c.args.from c.loop-place.place c.law_of.result.now c.law_of.ensures c.loop-place.product c.loop-place.invariant.0,
  search rules,
)
