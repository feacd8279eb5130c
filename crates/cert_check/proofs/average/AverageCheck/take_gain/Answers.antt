use Rattle.std.proofs.Common.{ℤ, subst, to_z, of_z}
use Rattle.std.proofs.lemmas.Int.{to_z-of_z}
use Rattle.std.specs.Int.{w128}
use Rattle.average_recursion.specs.Recursions.{KnowsPoints}
use Rattle.value_cert.specs.AverageRules.{named_points}
use Rattle.value_cert.specs.declared.line.CertLine.TheVariants.{Gain}
use Rattle.cert_check.proofs.average.AverageCheck.take_gain.Goals as goal

pub returns-then-take_gain-clause-points : goal.returns-then-take_gain-clause-points
returns-then-take_gain-clause-points c = λ first knows none.
    let Knows : ℤ → ℤ → Type 0 = λ num den. KnowsPoints c.take_gain.new.self (named_points first (Gain num den)) in
    subst (λ (num : ℤ). Knows num c.args.den) (to_z-of_z w128 c.args.num c.ranges.num)
    (subst (λ (den : ℤ). Knows (to_z w128 (of_z w128 c.args.num)) den) (to_z-of_z w128 c.args.den c.ranges.den)
    (c.take_gain.ensures.points first knows c.if-take_gain.true))
