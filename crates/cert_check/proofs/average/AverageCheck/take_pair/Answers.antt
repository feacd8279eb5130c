use Rattle.std.proofs.Common.{ℤ, subst, to_z, of_z}
use Rattle.std.proofs.lemmas.Int.{to_z-of_z}
use Rattle.std.specs.Int.{w128}
use Rattle.average_recursion.specs.Recursions.{KnowsPoints}
use Rattle.value_cert.specs.AverageRules.{named_points}
use Rattle.value_cert.specs.declared.line.CertLine.TheVariants.{Pair}
use Rattle.cert_check.proofs.average.AverageCheck.take_pair.Goals as goal

pub returns-then-take_pair-clause-points : goal.returns-then-take_pair-clause-points
returns-then-take_pair-clause-points c = λ first knows none.
    let Knows : ℤ → ℤ → Type 0 = λ low high. KnowsPoints c.take_pair.new.self (named_points first (Pair low high)) in
    subst (λ (low : ℤ). Knows low c.args.high) (to_z-of_z w128 c.args.low c.ranges.low)
    (subst (λ (high : ℤ). Knows (to_z w128 (of_z w128 c.args.low)) high) (to_z-of_z w128 c.args.high c.ranges.high)
    (c.take_pair.ensures.points first knows c.if-take_pair.true))
