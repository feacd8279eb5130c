use Rattle.std.proofs.Common.{rules, ◌≡◌, ◌≤◌, ℕ, suc, ◌+◌, ◌-◌, pos, length, ap, arith, ◌∙◌, FitsSigned, to_z-of_z}
use mir.Syntax.{w64}
use Rattle.decision_model.specs.declared.serial.Serial.{Serial}
use Rattle.serial_recursion.specs.Recursions.{serial_of, periods_of, echelons_of, cells_of}
use Rattle.serial_recursion.specs.Rows.{period_of}
use Rattle.value_cert.specs.SerialRules.{solved_row}
use Rattle.serial_echelon.specs.Solving.{HasSolved}
use Rattle.serial_echelon.proofs.Steps.{ready_is, level_is_solved, level_counted, echelon_kept}
use Rattle.serial_echelon.proofs.solve.solve_echelon.Goals as goal

pub solve_cells-requires-clause-within : goal.solve_cells-requires-clause-within
solve_cells-requires-clause-within c =
    let r = c.args.recursion.now in
    let is = ready_is (serial_of r) (periods_of r) (echelons_of r) (cells_of r) c.requires.ready in
    omega (arith, is.inside, c.begin_least_echelon-level.ensures.echelons, ap (λ (s : Serial). length s.holding) c.begin_least_echelon-level.ensures.serial)

pub returns-clause-row : goal.returns-clause-row
returns-clause-row c = λ has.
    let r = c.args.recursion.now in
    let e = c.begin_least_echelon-level.ensures in
    let new = c.begin_least_echelon-level.new.self in
    let begun : HasSolved new = echelon_kept r has new c.begin_least_echelon-level.result c.requires.ready e.serial (e.level has.first has.knows) (e.knows has.first (pos 0) has.knows) in
    let fits : FitsSigned w64 c.begin_least_echelon-level.result = search rules in
    let echelon : c.echelons.result + 1 ≡ suc (echelons_of r) = omega (arith, c.echelons.ensures.echelons) in
    let level = to_z-of_z fits ∙ e.level has.first has.knows ∙ level_is_solved r has c.requires.ready ∙ level_counted r has in
    let one_less : echelons_of new - 1 ≡ echelons_of r = omega (arith, e.echelons) in
    let cells =
    c.new.ensures ∙ c.in_ok-cells.ensures.cells begun
    ∙ ap (λ (s : Serial). (solved_row s (periods_of new - 1) (period_of s (periods_of new)) (echelons_of new - 1)).cells) e.serial
    ∙ ap (λ (p : ℕ). (solved_row (serial_of r) (p - 1) (period_of (serial_of r) p) (echelons_of new - 1)).cells) e.periods
    ∙ ap (λ (k : ℕ). (solved_row (serial_of r) (periods_of r - 1) (period_of (serial_of r) (periods_of r)) k).cells) one_less
    in
    λ i. record { echelon = echelon i; level = level i; cells = cells i }

pub returns-clause-solved : goal.returns-clause-solved
returns-clause-solved c = λ has.
    let r = c.args.recursion.now in
    let e = c.begin_least_echelon-level.ensures in
    let new = c.begin_least_echelon-level.new.self in
    c.in_ok-cells.ensures.solved (echelon_kept r has new c.begin_least_echelon-level.result c.requires.ready e.serial (e.level has.first has.knows) (e.knows has.first (pos 0) has.knows))
