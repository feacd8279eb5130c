use Rattle.std.proofs.Common.{◌≡◌, ◌≢◌, ℕ, ◌-◌, pos, cond, Option, None, Some, sym, ap, ◌∙◌, of_z}
use Rattle.std.specs.Int.{w128}
use Rattle.decision_model.specs.declared.finite.Finite.{Finite}
use Rattle.finite_recursion.specs.Recursions.{finite_of}
use Rattle.cert_check.proofs.FiniteLines.{other_period}
use Rattle.cert_check.proofs.finite.FiniteCheck.take_period.Goals as goal

pub returns-then-period-from-clause-rule : goal.returns-then-period-from-clause-rule
returns-then-period-from-clause-rule c = λ first knows.
    let finite = finite_of c.args.self.now.recursion in
    let wanted : c.from.result ≡ pos (finite.periods - first.rows) =
    c.from.ensures
    ∙ ap (λ (f : Finite). pos (f.periods - c.rows-rows.result)) c.finite.ensures.finite
    ∙ ap (λ n. pos (finite.periods - n)) (c.rows-rows.ensures.known first knows)
    in
    let differ : c.args.period ≢ pos (finite.periods - first.rows) = λ same. c.if-period-from.true (ap (of_z w128) (same ∙ sym wanted)) in
    sym (ap (λ b. cond {A = Option ℕ} b None (Some 2)) (other_period finite first c.args.period differ))

pub returns-clause-rows : goal.returns-clause-rows
returns-clause-rows c = λ first knows none. c.begin_row.ensures.knows first c.args.period knows
