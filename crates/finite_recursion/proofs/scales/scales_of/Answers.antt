use Rattle.std.proofs.Common.{◌≡◌, suc, ◌-◌, ◌*◌, ◌^◌, ◌≤◌, pos, ◌∙◌, ap, arith, to_z, of_z}
use mir.Syntax.{w128}
use Rattle.std.proofs.lemmas.Int.{ints}
use Rattle.decision_model.specs.WidthFacts.{finite_discounts_upto, finite_weights_upto}
use Rattle.value_cert.specs.FiniteValues.{scale, stock_scale}
use Rattle.finite_recursion.proofs.Bounds.{setup_small, unit_small, stock_scale_small, scale_small}
use Rattle.finite_recursion.proofs.Factors.{stock_told, scaled_told}
use Rattle.finite_recursion.proofs.Products.{low_wide}
use Rattle.finite_recursion.proofs.scales.scales_of.Goals as goal

pub power-discounts-requires : goal.power-discounts-requires
power-discounts-requires c =
    let finite = c.args.finite.now in
    let valid = c.requires.valid in
    omega (arith, ap (λ b. b ^ c.args.rows) c.from.ensures, finite_discounts_upto finite valid.regular.readable valid.width c.args.rows c.requires.within)

pub power-weights-requires : goal.power-weights-requires
power-weights-requires c =
    let finite = c.args.finite.now in
    let valid = c.requires.valid in
    omega (arith, ap (λ b. b ^ (c.args.rows - 1)) c.total.ensures, finite_weights_upto finite valid.regular.readable valid.width (c.args.rows - 1) (omega (arith, c.requires.within)))

pub product-requires : goal.product-requires
product-requires c =
    let finite = c.args.finite.now in
    let told = stock_told finite c.args.rows c.from.result c.total.result c.power-discounts.result c.power-weights.result c.requires.some c.from.ensures c.total.ensures c.power-discounts.ensures c.power-weights.ensures in
    omega (arith, told, stock_scale_small finite c.requires.valid (c.args.rows - 1), scale_small finite c.requires.valid (c.args.rows - 1) (omega (arith, c.requires.some, c.requires.within)))

pub product-requires-2 : goal.product-requires-2
product-requires-2 c =
    let finite = c.args.finite.now in
    omega (arith, scaled_told finite c.args.rows c.scale_of-scale.result finite.setup c.from-2.result c.requires.some c.scale_of-scale.ensures.scale c.from-2.ensures, setup_small finite c.requires.valid (c.args.rows - 1) (omega (arith, c.requires.some, c.requires.within)))

pub product-requires-3 : goal.product-requires-3
product-requires-3 c =
    let finite = c.args.finite.now in
    omega (arith, scaled_told finite c.args.rows c.scale_of-scale.result finite.unit c.from-3.result c.requires.some c.scale_of-scale.ensures.scale c.from-3.ensures, unit_small finite c.requires.valid (c.args.rows - 1) (omega (arith, c.requires.some, c.requires.within)))

pub returns : goal.returns
returns c =
    let finite = c.args.finite.now in
    let within : suc (c.args.rows - 1) ≤ finite.periods = omega (arith, c.requires.some, c.requires.within) in
    let stock = stock_told finite c.args.rows c.from.result c.total.result c.power-discounts.result c.power-weights.result c.requires.some c.from.ensures c.total.ensures c.power-discounts.ensures c.power-weights.ensures in
    let setup = scaled_told finite c.args.rows c.scale_of-scale.result finite.setup c.from-2.result c.requires.some c.scale_of-scale.ensures.scale c.from-2.ensures in
    let unit = scaled_told finite c.args.rows c.scale_of-scale.result finite.unit c.from-3.result c.requires.some c.scale_of-scale.ensures.scale c.from-3.ensures in
    let stock_is : c.product.result ≡ pos (stock_scale finite (c.args.rows - 1)) = c.product.ensures ∙ ap pos stock in
    let setup_is : c.product-2.result ≡ pos (scale finite (suc (c.args.rows - 1)) * finite.setup) = c.product-2.ensures ∙ ap pos setup in
    let unit_is : c.product-3.result ≡ pos (scale finite (suc (c.args.rows - 1)) * finite.unit) = c.product-3.ensures ∙ ap pos unit in
    record {
      stock = ap (λ z. to_z w128 (of_z w128 z)) stock_is ∙ low_wide (pos (stock_scale finite (c.args.rows - 1))) (omega (arith, ints)) (omega (arith, ints, stock_scale_small finite c.requires.valid (c.args.rows - 1), scale_small finite c.requires.valid (c.args.rows - 1) within));
      setup = ap (λ z. to_z w128 (of_z w128 z)) setup_is ∙ low_wide (pos (scale finite (suc (c.args.rows - 1)) * finite.setup)) (omega (arith, ints)) (omega (arith, ints, setup_small finite c.requires.valid (c.args.rows - 1) within));
      unit = ap (λ z. to_z w128 (of_z w128 z)) unit_is ∙ low_wide (pos (scale finite (suc (c.args.rows - 1)) * finite.unit)) (omega (arith, ints)) (omega (arith, ints, unit_small finite c.requires.valid (c.args.rows - 1) within));
    }
