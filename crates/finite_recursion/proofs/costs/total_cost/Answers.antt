use Rattle.std.proofs.Common.{rules, ◌≡◌, pos, arith, FitsSigned}
use mir.Syntax.{w128}
use Rattle.std.proofs.lemmas.Int.{ints, to_z-of_z}
use Rattle.finite_recursion.proofs.Products.{product_least, stored_sum}
use Rattle.finite_recursion.proofs.costs.total_cost.Goals as goal

pub returns : goal.returns
returns c =
    let discount : c.from.result ≡ pos c.args.discount = c.from.ensures in
    let fits : FitsSigned w128 (pos c.args.discount) = search rules in
    let first = product_least c.args.stock_scale c.args.stock c.requires.scale c.requires.stock in
    let second = product_least (pos c.args.discount) c.args.later (omega (arith, ints)) c.requires.later in
    rw discount (stored_sum c.args.stock_scale c.args.stock (pos c.args.discount) c.args.later (to_z-of_z w128 c.args.stock_scale c.ranges.stock_scale) (to_z-of_z w128 c.args.stock c.ranges.stock) (to_z-of_z w128 (pos c.args.discount) fits) (to_z-of_z w128 c.args.later c.ranges.later) first second c.requires.fits)
