use Rattle.std.proofs.Common.{◌≡◌, ◌∙◌, ◌*◌, ap, arith, pos}
use Rattle.fraction128.specs.Reduced.{lowest_num, lowest_den}
use Rattle.value_cert.specs.AverageRules.{span_den}
use Rattle.average_lemmas.specs.LeadWeights.{weights_fit}
use Rattle.average_cost.proofs.SpanSteps.{moving_is, places_fit, front_fits, small, setup_fits, den_some, den_told, num_told}
use Rattle.average_lemmas.specs.PlaceSizes.{read_back}
use Rattle.average_cost.proofs.relative.span.Goals as goal

pub power-weights-requires : goal.power-weights-requires
power-weights-requires c = let fits = weights_fit c.args.item.now c.requires.valid in rw c.total-2.ensures (omega (arith, fits))

pub power-places-requires : goal.power-places-requires
power-places-requires c =
    let fits = places_fit c.args.item.now c.requires.valid c.args.cert.now c.requires.certified in
    rw (c.total.ensures, c.weight.ensures, c.positions.ensures.positions, moving_is c.args.item.now c.requires.valid c.args.cert.now c.requires.certified) (omega (arith, fits))

pub overflow_mul-den : goal.overflow_mul-den
overflow_mul-den c = let fits = front_fits c.args.item.now c.requires.valid c.args.cert.now c.requires.certified in rw (c.power-weights.ensures, c.total-2.ensures) (omega (arith, fits))

pub overflow_mul-den-2 : goal.overflow_mul-den-2
overflow_mul-den-2 c = let fits = (small c.args.item.now c.requires.valid c.args.cert.now c.requires.certified).1 in let told = den_told c.args.item.now c.requires.valid c.args.cert.now c.requires.certified c.total-2.result c.power-weights.result c.total.result c.weight.result c.positions.result c.power-places.result c.total-2.ensures c.power-weights.ensures c.total.ensures c.weight.ensures c.positions.ensures.positions c.power-places.ensures in omega (arith, fits, told)

pub overflow_mul-setup : goal.overflow_mul-setup
overflow_mul-setup c = let fits = setup_fits c.args.item.now c.requires.valid c.args.cert.now c.requires.certified in let told : c.from.result * (c.args.cert.now.den * c.power-weights.result * c.power-places.result) ≡ c.args.item.now.setup * span_den c.args.item.now c.args.cert.now = ((λ i. c.from.ensures i * den_told c.args.item.now c.requires.valid c.args.cert.now c.requires.certified c.total-2.result c.power-weights.result c.total.result c.weight.result c.positions.result c.power-places.result c.total-2.ensures c.power-weights.ensures c.total.ensures c.weight.ensures c.positions.ensures.positions c.power-places.ensures i)) in omega (arith, fits, told)

pub greatest_of-requires-clause-start : goal.greatest_of-requires-clause-start
greatest_of-requires-clause-start c = let fits = setup_fits c.args.item.now c.requires.valid c.args.cert.now c.requires.certified in let told : c.from.result * (c.args.cert.now.den * c.power-weights.result * c.power-places.result) ≡ c.args.item.now.setup * span_den c.args.item.now c.args.cert.now = ((λ i. c.from.ensures i * den_told c.args.item.now c.requires.valid c.args.cert.now c.requires.certified c.total-2.result c.power-weights.result c.total.result c.weight.result c.positions.result c.power-places.result c.total-2.ensures c.power-weights.ensures c.total.ensures c.weight.ensures c.positions.ensures.positions c.power-places.ensures i)) in omega (arith, fits, told)

pub signed-requires : goal.signed-requires
signed-requires c = (omega (arith, num_told c.args.item.now c.requires.valid c.args.cert.now c.requires.certified c.greatest_of.result (c.from.result * (c.args.cert.now.den * c.power-weights.result * c.power-places.result)) c.greatest_of.ensures (λ i. c.from.ensures i * den_told c.args.item.now c.requires.valid c.args.cert.now c.requires.certified c.total-2.result c.power-weights.result c.total.result c.weight.result c.positions.result c.power-places.result c.total-2.ensures c.power-weights.ensures c.total.ensures c.weight.ensures c.positions.ensures.positions c.power-places.ensures i), (small c.args.item.now c.requires.valid c.args.cert.now c.requires.certified).0))

pub new-requires : goal.new-requires
new-requires c = let told = den_told c.args.item.now c.requires.valid c.args.cert.now c.requires.certified c.total-2.result c.power-weights.result c.total.result c.weight.result c.positions.result c.power-places.result c.total-2.ensures c.power-weights.ensures c.total.ensures c.weight.ensures c.positions.ensures.positions c.power-places.ensures in omega (arith, told, den_some c.args.item.now c.requires.valid c.args.cert.now c.requires.certified)

pub returns-clause-num : goal.returns-clause-num
returns-clause-num c = c.new.ensures.num ∙ (λ i. lowest_num ((read_back c.signed.result c.greatest_of.result c.signed.ensures (omega (arith, num_told c.args.item.now c.requires.valid c.args.cert.now c.requires.certified c.greatest_of.result (c.from.result * (c.args.cert.now.den * c.power-weights.result * c.power-places.result)) c.greatest_of.ensures (λ i. c.from.ensures i * den_told c.args.item.now c.requires.valid c.args.cert.now c.requires.certified c.total-2.result c.power-weights.result c.total.result c.weight.result c.positions.result c.power-places.result c.total-2.ensures c.power-weights.ensures c.total.ensures c.weight.ensures c.positions.ensures.positions c.power-places.ensures i), (small c.args.item.now c.requires.valid c.args.cert.now c.requires.certified).0)) ∙ ap pos (num_told c.args.item.now c.requires.valid c.args.cert.now c.requires.certified c.greatest_of.result (c.from.result * (c.args.cert.now.den * c.power-weights.result * c.power-places.result)) c.greatest_of.ensures (λ i. c.from.ensures i * den_told c.args.item.now c.requires.valid c.args.cert.now c.requires.certified c.total-2.result c.power-weights.result c.total.result c.weight.result c.positions.result c.power-places.result c.total-2.ensures c.power-weights.ensures c.total.ensures c.weight.ensures c.positions.ensures.positions c.power-places.ensures i))) i) ((den_told c.args.item.now c.requires.valid c.args.cert.now c.requires.certified c.total-2.result c.power-weights.result c.total.result c.weight.result c.positions.result c.power-places.result c.total-2.ensures c.power-weights.ensures c.total.ensures c.weight.ensures c.positions.ensures.positions c.power-places.ensures) i))

pub returns-clause-den : goal.returns-clause-den
returns-clause-den c = c.new.ensures.den ∙ (λ i. lowest_den ((read_back c.signed.result c.greatest_of.result c.signed.ensures (omega (arith, num_told c.args.item.now c.requires.valid c.args.cert.now c.requires.certified c.greatest_of.result (c.from.result * (c.args.cert.now.den * c.power-weights.result * c.power-places.result)) c.greatest_of.ensures (λ i. c.from.ensures i * den_told c.args.item.now c.requires.valid c.args.cert.now c.requires.certified c.total-2.result c.power-weights.result c.total.result c.weight.result c.positions.result c.power-places.result c.total-2.ensures c.power-weights.ensures c.total.ensures c.weight.ensures c.positions.ensures.positions c.power-places.ensures i), (small c.args.item.now c.requires.valid c.args.cert.now c.requires.certified).0)) ∙ ap pos (num_told c.args.item.now c.requires.valid c.args.cert.now c.requires.certified c.greatest_of.result (c.from.result * (c.args.cert.now.den * c.power-weights.result * c.power-places.result)) c.greatest_of.ensures (λ i. c.from.ensures i * den_told c.args.item.now c.requires.valid c.args.cert.now c.requires.certified c.total-2.result c.power-weights.result c.total.result c.weight.result c.positions.result c.power-places.result c.total-2.ensures c.power-weights.ensures c.total.ensures c.weight.ensures c.positions.ensures.positions c.power-places.ensures i))) i) ((den_told c.args.item.now c.requires.valid c.args.cert.now c.requires.certified c.total-2.result c.power-weights.result c.total.result c.weight.result c.positions.result c.power-places.result c.total-2.ensures c.power-weights.ensures c.total.ensures c.weight.ensures c.positions.ensures.positions c.power-places.ensures) i))
