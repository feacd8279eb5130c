use Rattle.std.proofs.Common.{◌*◌, ap, arith}
use Rattle.decision_model.specs.Limits.{parts}
use Rattle.value_cert.specs.AverageValues.{at_place, stock_sum}
use Rattle.average_lemmas.specs.PlaceSizes.{place_cost, cast_fits}
use Rattle.bracket_lemmas.specs.WideSizes.{stock_fits}
use Rattle.bracket_terms.proofs.WalkFacts.{place_value}
use Rattle.bracket_terms.specs.GridKnown.{grid_wide}
use Rattle.bracket_terms.proofs.grid.Grid.cost_at.Goals as goal

pub overflow_cast-result : goal.overflow_cast-result
overflow_cast-result c =
    let grid = c.args.self.now in
    cast_fits c.value.result (stock_sum grid.item.now (at_place grid.item.now c.args.k)) (place_value grid.item.now (grid_wide grid) c.args.k c.requires.within c.go_up.new.walk c.value.result c.go_up.ensures (c.value.ensures _ _ _ c.go_up.ensures.walk_of))

pub overflow_mul-result : goal.overflow_mul-result
overflow_mul-result c =
    let grid = c.args.self.now in
    let value = place_cost (place_value grid.item.now (grid_wide grid) c.args.k c.requires.within c.go_up.new.walk c.value.result c.go_up.ensures (c.value.ensures _ _ _ c.go_up.ensures.walk_of)) in
    let fits = stock_fits grid.item.now (grid_wide grid) c.args.k c.requires.within in
    rw value (omega (arith, fits))

pub returns-clause-exact : goal.returns-clause-exact
returns-clause-exact c =
    let grid = c.args.self.now in
    ap (λ z. parts * z) (place_cost (place_value grid.item.now (grid_wide grid) c.args.k c.requires.within c.go_up.new.walk c.value.result c.go_up.ensures (c.value.ensures _ _ _ c.go_up.ensures.walk_of)))
