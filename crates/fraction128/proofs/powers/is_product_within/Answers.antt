use Rattle.std.proofs.Common.{◌<◌, ◌∙◌, arith}
use Rattle.fraction128.specs.Product.{product}
use Rattle.fraction128.proofs.Products.{product-drop_more, product_passes}
use Rattle.fraction128.proofs.powers.is_product_within.Goals as goal

pub returns-in_default : goal.returns-in_default
returns-in_default c =
    let so_far = c.loop-factor in
    let passes : c.args.limit < product c.args.factors.now = product_passes _ so_far.factor-index so_far.product c.args.limit c.requires.positive (omega arith) so_far.invariant.0 (omega (arith, c.in_default.ensures)) in
    (λ h. absurd (cc), λ h. absurd (omega arith))

pub returns-then-next-limit : goal.returns-then-next-limit
returns-then-next-limit c =
    let so_far = c.loop-factor in
    let passes : c.args.limit < product c.args.factors.now = product_passes _ so_far.factor-index so_far.product c.args.limit c.requires.positive (omega arith) so_far.invariant.0 (omega (arith, c.in-Some.ensures)) in
    (λ h. absurd (cc), λ h. absurd (omega arith))

pub loop-factor-preserved : goal.loop-factor-preserved
loop-factor-preserved c =
    let so_far = c.loop-factor in
    (product-drop_more c.args.factors.now so_far.factor-index so_far.product c.in-Some.next (omega arith) c.in-Some.ensures.1 ∙ so_far.invariant.0, omega arith)
