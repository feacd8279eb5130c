use Rattle.std.proofs.Common.{rules, FitsSigned, w64}
use mir.Syntax.{w128}
use Rattle.std.proofs.lemmas.Int.{to_z-of_z}
use Rattle.finite_recursion.proofs.row.keep_place.Goals as goal

pub returns-clause-reach : goal.returns-clause-reach
returns-clause-reach c = λ most positions pairs is.
    let at : FitsSigned w64 c.args.kept.now.at = search rules in
    let stay : FitsSigned w128 c.args.kept.now.stay = search rules in
    let unit : FitsSigned w128 c.args.row.now.scales.unit = search rules in
    let cost : FitsSigned w128 c.cost_with_units-cost.result = search rules in
    let told = simp to_z-of_z at c.cost_with_units-cost.ensures in
    rw (← told) (simp to_z-of_z at (c.push.ensures.seen most positions pairs is))
