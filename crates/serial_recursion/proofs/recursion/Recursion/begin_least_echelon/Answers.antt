use Rattle.std.proofs.Common.{rules, ◌≡◌, ◌≤◌, ◌^◌, ℤ, pos, ◌+ℤ◌, sym, ◌∙◌, ap, arith, subst, FitsSigned, to_z, of_z, to_z-of_z, w64}
use Rattle.std.specs.Prelude.{unsigned_abs}
use Rattle.decision_model.specs.Serial.{serial_low}
use Rattle.serial_recursion.proofs.Facts.{ready_parts, low_small, found_level}
use Rattle.serial_recursion.proofs.Frames.{width_most}
use Rattle.serial_recursion.proofs.Known.{valid_known}
use Rattle.serial_recursion.specs.Rows.{period_of}
use Rattle.serial_recursion.proofs.recursion.Recursion.begin_least_echelon.Goals as goal

pub position_at-requires-clause-low : goal.position_at-requires-clause-low
position_at-requires-clause-low c =
    let r = c.args.self.now in
    let serial = r.serial.now in
    let parts = ready_parts serial r.periods r.echelons r.cells c.requires.ready in
    let low : FitsSigned w64 r.frame.low = search rules in
    subst (λ (z : ℤ). unsigned_abs z ≤ 2 ^ 40) (sym (to_z-of_z low)) (low_small serial (valid_known serial r.valid) r.periods parts.0 r.within r.frame r.is_frame)

pub position_at-requires-clause-few : goal.position_at-requires-clause-few
position_at-requires-clause-few c =
    let r = c.args.self.now in
    let serial = r.serial.now in
    let valid = valid_known serial r.valid in
    omega (arith, c.begin_next-place.ensures.written.is_level, r.is_frame.is_count, width_most serial valid (period_of serial r.periods) (omega arith), valid.regular.grid.positions)

-- the position of the place
at_is : (c : goal.After-position_at) → to_z w64 (of_z w64 c.position_at.result) ≡ serial_low c.args.self.now.serial.now (period_of c.args.self.now.serial.now c.args.self.now.periods) +ℤ pos c.begin_next-place.result
at_is c =
    let r = c.args.self.now in
    let low : FitsSigned w64 r.frame.low = search rules in
    let fits : FitsSigned w64 c.position_at.result = search rules in
    to_z-of_z fits ∙ c.position_at.ensures ∙ ap (λ z. z +ℤ pos c.begin_next-place.result) (to_z-of_z low ∙ r.is_frame.is_low)

pub returns-clause-level : goal.returns-clause-level
returns-clause-level c = λ first knows.
    let r = c.args.self.now in
    let serial = r.serial.now in
    let parts = ready_parts serial r.periods r.echelons r.cells c.requires.ready in
    let b = c.begin_next-place in
    at_is c
    ∙ found_level serial (valid_known serial r.valid) r.periods parts.0 r.within r.frame r.is_frame r.echelons parts.1.1 r.values.now r.costs.now r.level b.new.self.values.now b.new.self.costs.now b.result r.cells first b.ensures.written knows b.ensures.place

pub returns-clause-knows : goal.returns-clause-knows
returns-clause-knows c = λ first echelon knows.
    c.begin_next-place.ensures.knows first echelon (to_z w64 (of_z w64 c.position_at.result)) knows (sym (at_is c))
