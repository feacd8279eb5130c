use Rattle.std.proofs.Common.{rules, ℤ, ap, ◌∙◌, of_z, to_z}
use Rattle.std.specs.Int.{w128}
use Rattle.std.specs.Int.RustNames.{FitsSigned}
use Rattle.std.proofs.lemmas.Int.{to_z-of_z}
use Rattle.finite_recursion.specs.Recursions.{finite_of}
use Rattle.value_cert.specs.FiniteRules.{position_rule}
use Rattle.cert_check.proofs.finite.FiniteCheck.take.Goals as goal

pub returns-in-Period-clause-rule : goal.returns-in-Period-clause-rule
returns-in-Period-clause-rule c = λ first knows.
    let period : FitsSigned w128 c.in-Period.period = search rules in
    rw (c.in-Period.is) (simp to_z-of_z at (c.take_period.ensures.rule first knows))

pub returns-in-Value-clause-rule : goal.returns-in-Value-clause-rule
returns-in-Value-clause-rule c = λ first knows.
    let at : FitsSigned w128 c.in-Value.at = search rules in
    let to : FitsSigned w128 c.in-Value.to = search rules in
    let value : FitsSigned w128 c.in-Value.value = search rules in
    let finite = finite_of c.args.self.now.recursion in
    rw (c.in-Value.is) (
    c.take_value.ensures.rule first knows
    ∙ ap (λ (x : ℤ). position_rule finite first x (to_z w128 (of_z w128 c.in-Value.to)) (to_z w128 (of_z w128 c.in-Value.value))) (to_z-of_z w128 c.in-Value.at at)
    ∙ ap (λ (y : ℤ). position_rule finite first c.in-Value.at y (to_z w128 (of_z w128 c.in-Value.value))) (to_z-of_z w128 c.in-Value.to to)
    ∙ ap (λ (z : ℤ). position_rule finite first c.in-Value.at c.in-Value.to z) (to_z-of_z w128 c.in-Value.value value)
    )
