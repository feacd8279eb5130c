use Rattle.std.proofs.Common.{[], subst, ◌∙◌, ap}
use Rattle.std.specs.Prelude.{unsigned_abs}
use mir.Syntax.{w128}
use Rattle.std.proofs.lemmas.Int.{to_z-of_z}
use Rattle.value_cert.specs.AverageValues.{Ratio}
use Rattle.average_recursion.specs.Recursions.{KnowsPoints}
use Rattle.average_recursion.proofs.Known.{valid_known}
use Rattle.average_recursion.proofs.points.Points.take_gain.Goals as goal

pub is_gain-requires-clause-valid : goal.is_gain-requires-clause-valid
is_gain-requires-clause-valid c = valid_known c.args.self.now.average.now c.args.self.now.valid

pub returns-clause-points : goal.returns-clause-points
returns-clause-points c = λ first knows kept.
    let num = c.unsigned_abs-num.ensures.value ∙ ap unsigned_abs (to_z-of_z w128 c.args.num c.ranges.num) in
    let den = c.unsigned_abs-den.ensures.value ∙ ap unsigned_abs (to_z-of_z w128 c.args.den c.ranges.den) in
    subst (λ (g : Ratio). KnowsPoints c.begin.new.self (record { g = g; low = first.low; high = first.high; lower = []; upper = [] })) (λ i. record { num = num i; den = den i }) (c.begin.ensures.points first knows)
