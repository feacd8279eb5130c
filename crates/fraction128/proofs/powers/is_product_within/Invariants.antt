use Rattle.std.proofs.Common.{◌≡◌, ◌≤◌, ◌*◌, drop}
use Rattle.fraction128.specs.Product.{product}
use Rattle.fraction128.proofs.powers.is_product_within.Given as goal

abbrev pub invariant-loop-factor : goal.invariant-loop-factor
invariant-loop-factor l = (l.product * product (drop l.factor-index l.factors) ≡ product l.factors) × (l.product ≤ l.limit)
