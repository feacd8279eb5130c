use Rattle.std.proofs.Common.{◌≡◌, ℕ, suc, ◌+◌, ◌-◌, pos, ap, arith, ◌∙◌}
use Rattle.decision_model.specs.declared.serial.Serial.{Serial}
use Rattle.serial_recursion.specs.Recursions.{serial_of, periods_of}
use Rattle.serial_recursion.specs.Rows.{period_of}
use Rattle.value_cert.specs.SerialRules.{solved_period}
use Rattle.serial_echelon.specs.Solving.{HasSolved}
use Rattle.serial_echelon.proofs.Steps.{period_kept}
use Rattle.serial_echelon.proofs.solve.solve_period.Goals as goal

pub returns-clause-period : goal.returns-clause-period
returns-clause-period c = λ has.
    let r = c.args.recursion.now in
    let e = c.begin_period.ensures in
    let new = c.begin_period.new.self in
    let begun : HasSolved new = period_kept r has new c.requires.whole c.requires.left e.serial (e.knows has.first (pos 0) has.knows) in
    let period = ap (λ (s : Serial). s.periods - c.periods.result) c.serial.ensures.serial ∙ ap (λ (n : ℕ). (serial_of r).periods - n) c.periods.ensures.periods in
    let one_less : periods_of new - 1 ≡ periods_of r = omega (arith, e.periods) in
    let number : period_of (serial_of r) (periods_of new) ≡ (serial_of r).periods - periods_of r = omega (arith, e.periods, c.requires.left) in
    let rows =
    c.new.ensures ∙ c.in_ok-rows.ensures.rows begun
    ∙ ap (λ (s : Serial). (solved_period s (periods_of new - 1) (period_of s (periods_of new))).rows) e.serial
    ∙ ap (λ (n : ℕ). (solved_period (serial_of r) n (period_of (serial_of r) (periods_of new))).rows) one_less
    ∙ ap (λ (t : ℕ). (solved_period (serial_of r) (periods_of r) t).rows) number
    in
    λ i. record { period = period i; rows = rows i }

pub returns-clause-solved : goal.returns-clause-solved
returns-clause-solved c = λ has.
    let r = c.args.recursion.now in
    let e = c.begin_period.ensures in
    c.in_ok-rows.ensures.solved (period_kept r has c.begin_period.new.self c.requires.whole c.requires.left e.serial (e.knows has.first (pos 0) has.knows))
