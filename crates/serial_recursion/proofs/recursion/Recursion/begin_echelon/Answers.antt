use Rattle.std.proofs.Common.{rules, ◌-◌, ◌≤◌, ◌^◌, ℕ, ℤ, pos, ◌+ℤ◌, ◌≤ℤ◌, sym, ◌∙◌, ap, arith, subst, FitsSigned, to_z-of_z, w64}
use Rattle.std.specs.Int.{w128}
use Rattle.std.specs.Prelude.{unsigned_abs}
use Rattle.std.proofs.lemmas.Int.{ints}
use Rattle.decision_model.specs.Serial.{serial_low}
use Rattle.serial_recursion.proofs.Facts.{ready_parts, low_small, found_turns, on_parts, level_inside}
use Rattle.serial_recursion.proofs.Known.{valid_known}
use Rattle.std.specs.List.{list_all, range_with_len}
use Rattle.serial_recursion.specs.Periods.{IsWritten}
use Rattle.serial_recursion.specs.Rows.{period_of, turns_from, value_at}
use Rattle.serial_recursion.specs.declared.frame.Frame.{Frame}
use Rattle.serial_recursion.proofs.recursion.Recursion.begin_echelon.Goals as goal

pub level_place-place-requires-clause-low : goal.level_place-place-requires-clause-low
level_place-place-requires-clause-low c =
    let r = c.args.self.now in
    let serial = r.serial.now in
    let parts = ready_parts serial r.periods r.echelons r.cells c.requires.ready in
    let low : FitsSigned w64 r.frame.low = search rules in
    subst (λ (z : ℤ). unsigned_abs z ≤ 2 ^ 40) (sym (to_z-of_z low)) (low_small serial (valid_known serial r.valid) r.periods parts.0 r.within r.frame r.is_frame)

pub level_place-place-requires-clause-near : goal.level_place-place-requires-clause-near
level_place-place-requires-clause-near c =
    let r = c.args.self.now in
    let serial = r.serial.now in
    let valid = valid_known serial r.valid in
    let parts = ready_parts serial r.periods r.echelons r.cells c.requires.ready in
    let low : FitsSigned w64 r.frame.low = search rules in
    let fits : FitsSigned w128 c.args.level = search rules in
    let on = on_parts serial valid r.periods c.args.level c.requires.level in
    let small = low_small serial valid r.periods parts.0 r.within r.frame r.is_frame in
    rw (to_z-of_z fits) (rw (to_z-of_z low) (near serial.cap c.args.level r.frame.low (valid.regular.readable.cap.most) on.1 (Rattle.serial_recursion.proofs.Rooms.low_near serial valid r.periods parts.0 r.within r.frame r.is_frame) (Rattle.serial_recursion.proofs.Rooms.far_small serial valid)))
  where
    near : {far : ℕ} (cap level low : ℤ) → cap ≤ℤ pos 1000000 → level ≤ℤ cap → unsigned_abs low ≤ far → far ≤ 12000 → level ≤ℤ (low +ℤ pos (2 ^ 40))
    near cap level low a b d e = omega (arith, ints, a, b, d, e)

pub begin_next-requires-clause-given : goal.begin_next-requires-clause-given
begin_next-requires-clause-given c =
    let r = c.args.self.now in
    let serial = r.serial.now in
    let valid = valid_known serial r.valid in
    let low : FitsSigned w64 r.frame.low = search rules in
    let fits : FitsSigned w128 c.args.level = search rules in
    let at = ap (λ z. z +ℤ pos c.level_place-place.result) (sym (to_z-of_z low ∙ r.is_frame.is_low)) ∙ c.level_place-place.ensures ∙ to_z-of_z fits in
    omega (arith, level_inside serial valid r.periods c.level_place-place.result c.args.level at (on_parts serial valid r.periods c.args.level c.requires.level).1, r.is_frame.is_count)

pub turns_at-requires-clause-begun : goal.turns_at-requires-clause-begun
turns_at-requires-clause-begun c =
    let r = c.args.self.now in
    omega (arith, (ready_parts r.serial.now r.periods r.echelons r.cells c.requires.ready).0, c.begin_next.ensures.periods)

pub turns_at-requires-clause-inside : goal.turns_at-requires-clause-inside
turns_at-requires-clause-inside c =
    omega (arith, c.begin_next.ensures.written.is_level, c.begin_next.ensures.place, ap (λ (f : Frame). f.count) c.begin_next.ensures.frame)

pub returns-clause-turns : goal.returns-clause-turns
returns-clause-turns c = λ first knows.
    let r = c.args.self.now in
    let serial = r.serial.now in
    let parts = ready_parts serial r.periods r.echelons r.cells c.requires.ready in
    let b = c.begin_next in
    let low : FitsSigned w64 r.frame.low = search rules in
    let fits : FitsSigned w128 c.args.level = search rules in
    let place = c.level_place-place.result in
    let at = ap (λ z. z +ℤ pos place) (sym (to_z-of_z low ∙ r.is_frame.is_low)) ∙ c.level_place-place.ensures ∙ to_z-of_z fits in
    c.turns_at.ensures
    ∙ ap (λ (f : Frame). list_all (turns_from (value_at b.new.self.costs.now) place) (range_with_len 0 (f.count - 1))) b.ensures.frame
    ∙ found_turns serial (valid_known serial r.valid) r.periods parts.0 r.within r.frame r.is_frame r.echelons parts.1.1 r.values.now r.costs.now r.level b.new.self.values.now b.new.self.costs.now place r.cells first
    (subst (λ (p : ℕ). IsWritten serial r.frame (period_of serial r.periods) r.echelons r.values.now r.costs.now r.level b.new.self.values.now b.new.self.costs.now p) b.ensures.place b.ensures.written)
    knows c.args.level at

pub returns-clause-knows : goal.returns-clause-knows
returns-clause-knows c = λ first echelon knows.
    let r = c.args.self.now in
    let serial = r.serial.now in
    let low : FitsSigned w64 r.frame.low = search rules in
    let fits : FitsSigned w128 c.args.level = search rules in
    let place = c.level_place-place.result in
    let at = ap (λ z. z +ℤ pos place) (sym (to_z-of_z low ∙ r.is_frame.is_low)) ∙ c.level_place-place.ensures ∙ to_z-of_z fits in
    c.begin_next.ensures.knows first echelon c.args.level knows (ap (λ (p : ℕ). serial_low serial (period_of serial r.periods) +ℤ pos p) c.begin_next.ensures.place ∙ at)
