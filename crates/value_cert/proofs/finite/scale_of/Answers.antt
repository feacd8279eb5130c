use Rattle.std.proofs.Common.{◌+◌, ◌*◌, ◌^◌, ◌≡◌, ◌∙◌, arith, ap}
use Rattle.decision_model.specs.DemandLaws.{common_total}
use Rattle.decision_model.specs.WidthFacts.{finite_scale_some, finite_discounts_upto, finite_weights_upto}
use Rattle.value_cert.proofs.finite.scale_of.Goals as goal

pub power-discounts-requires : goal.power-discounts-requires
power-discounts-requires c =
    let finite = c.args.finite.now in
    let valid = c.requires.valid in
    omega (arith, ap (λ b. b ^ c.args.left) c.from.ensures, finite_discounts_upto finite valid.regular.readable valid.width c.args.left c.requires.left)

pub power-weights-requires : goal.power-weights-requires
power-weights-requires c =
    let finite = c.args.finite.now in
    let valid = c.requires.valid in
    omega (arith, ap (λ b. b ^ (c.args.left + finite.lead)) c.total.ensures, finite_weights_upto finite valid.regular.readable valid.width (c.args.left + finite.lead) (omega (arith, c.requires.left)))

pub returns-clause-some : goal.returns-clause-some
returns-clause-some g =
    let finite = g.args.finite.now in
    let n = g.args.left in
    let discounts : g.power-discounts.result ≡ finite.discount_den ^ n = g.power-discounts.ensures ∙ ap (λ b. b ^ n) g.from.ensures in
    let weights : g.power-weights.result ≡ common_total finite.laws ^ (n + finite.lead) = g.power-weights.ensures ∙ ap (λ b. b ^ (n + finite.lead)) g.total.ensures in
    let product = ap (λ d. d * g.power-weights.result) discounts ∙ ap (λ w. finite.discount_den ^ n * w) weights in
    omega (arith, product, finite_scale_some finite g.requires.valid.regular.readable n)
