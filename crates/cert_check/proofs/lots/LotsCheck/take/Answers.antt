use Rattle.std.proofs.Common.{rules}
use Rattle.std.specs.Int.{w128}
use Rattle.std.specs.Int.RustNames.{FitsSigned}
use Rattle.std.proofs.lemmas.Int.{to_z-of_z}
use Rattle.cert_check.proofs.lots.LotsCheck.take.Goals as goal

pub returns-in-Order-clause-plan : goal.returns-in-Order-clause-plan
returns-in-Order-clause-plan c = λ first knows none.
    let order : FitsSigned w128 c.in-Order.order = search rules in
    let dual : FitsSigned w128 c.in-Order.dual = search rules in
    let plan = c.take_order.ensures.plan first knows none in
    rw (c.in-Order.is) (simp to_z-of_z at (rw (c.unsigned_abs.ensures.value, c.unsigned_abs-in-Order.ensures.value) at plan))
