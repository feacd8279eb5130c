use Rattle.std.proofs.Common.{rules, ℤ, subst, sym, ap, ◌∙◌, to_z, of_z}
use Rattle.std.proofs.lemmas.Int.{to_z-of_z}
use Rattle.std.specs.Int.{w128}
use Rattle.std.specs.Int.RustNames.{FitsSigned}
use Rattle.std.specs.Prelude.{unsigned_abs}
use Rattle.average_recursion.specs.Recursions.{average_of, KnowsPoints}
use Rattle.value_cert.specs.AverageRules.{named_points, average_rule, point_rule}
use Rattle.value_cert.specs.declared.line.CertLine.{CertLine}
use Rattle.value_cert.specs.declared.line.CertLine.TheVariants.{Gain, Pair, Point}
use Rattle.cert_check.proofs.average.AverageCheck.take.Goals as goal

pub returns-in-Gain-clause-points : goal.returns-in-Gain-clause-points
returns-in-Gain-clause-points c = λ first knows none.
    let num = c.in-Gain.num in
    let den = c.in-Gain.den in
    let num_fits : FitsSigned w128 num = search rules in
    let den_fits : FitsSigned w128 den = search rules in
    let Knows : CertLine → Type 0 = λ line. KnowsPoints c.take_gain.new.self.points (named_points first line) in
    subst Knows (sym c.in-Gain.is)
    (subst (λ (n : ℤ). Knows (Gain n den)) (to_z-of_z w128 num num_fits)
    (subst (λ (d : ℤ). Knows (Gain (to_z w128 (of_z w128 num)) d)) (to_z-of_z w128 den den_fits) (c.take_gain.ensures.points first knows none)))

pub returns-in-Pair-clause-points : goal.returns-in-Pair-clause-points
returns-in-Pair-clause-points c = λ first knows none.
    let low = c.in-Pair.low in
    let high = c.in-Pair.high in
    let low_fits : FitsSigned w128 low = search rules in
    let high_fits : FitsSigned w128 high = search rules in
    let Knows : CertLine → Type 0 = λ line. KnowsPoints c.take_pair.new.self.points (named_points first line) in
    subst Knows (sym c.in-Pair.is)
    (subst (λ (l : ℤ). Knows (Pair l high)) (to_z-of_z w128 low low_fits)
    (subst (λ (h : ℤ). Knows (Pair (to_z w128 (of_z w128 low)) h)) (to_z-of_z w128 high high_fits) (c.take_pair.ensures.points first knows none)))

pub returns-in-Point-clause-rule : goal.returns-in-Point-clause-rule
returns-in-Point-clause-rule c = λ first knows.
    let at = c.in-Point.at in
    let lower = c.in-Point.lower in
    let upper = c.in-Point.upper in
    let at_fits : FitsSigned w128 at = search rules in
    let lower_fits : FitsSigned w128 lower = search rules in
    let upper_fits : FitsSigned w128 upper = search rules in
    let item = average_of c.args.self.now.points in
    c.take_point.ensures.rule first knows
    ∙ ap (λ (x : ℤ). point_rule item first x (unsigned_abs (to_z w128 (of_z w128 lower))) (unsigned_abs (to_z w128 (of_z w128 upper)))) (to_z-of_z w128 at at_fits)
    ∙ ap (λ (a : ℤ). point_rule item first at (unsigned_abs a) (unsigned_abs (to_z w128 (of_z w128 upper)))) (to_z-of_z w128 lower lower_fits)
    ∙ ap (λ (a : ℤ). point_rule item first at (unsigned_abs lower) (unsigned_abs a)) (to_z-of_z w128 upper upper_fits)
    ∙ ap (average_rule item first) (sym c.in-Point.is)

pub returns-in-Point-clause-points : goal.returns-in-Point-clause-points
returns-in-Point-clause-points c = λ first knows none.
    let at = c.in-Point.at in
    let lower = c.in-Point.lower in
    let upper = c.in-Point.upper in
    let at_fits : FitsSigned w128 at = search rules in
    let lower_fits : FitsSigned w128 lower = search rules in
    let upper_fits : FitsSigned w128 upper = search rules in
    let Knows : CertLine → Type 0 = λ line. KnowsPoints c.take_point.new.self (named_points first line) in
    subst Knows (sym c.in-Point.is)
    (subst (λ (x : ℤ). Knows (Point x lower upper)) (to_z-of_z w128 at at_fits)
    (subst (λ (a : ℤ). Knows (Point (to_z w128 (of_z w128 at)) a upper)) (to_z-of_z w128 lower lower_fits)
    (subst (λ (a : ℤ). Knows (Point (to_z w128 (of_z w128 at)) (to_z w128 (of_z w128 lower)) a)) (to_z-of_z w128 upper upper_fits) (c.take_point.ensures.points first knows none))))
