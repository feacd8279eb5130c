use Rattle.std.proofs.Common.{◌∙◌, sym, arith, rules}
use Rattle.fraction128.proofs.Products.{product-zero}
use Rattle.fraction128.proofs.powers.within.Goals as goal

pub returns-then-contains : goal.returns-then-contains
returns-then-contains c =
    (λ _. omega (arith, product-zero c.args.factors.now (sym c.contains.ensures.value ∙ c.if-contains.true)), λ _. search rules)
