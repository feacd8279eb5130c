use Rattle.std.proofs.Common.{rules, ◌≡◌, ◌+◌, ◌-◌, suc, ℤ, ◌≤ℤ◌, sym, ◌∙◌, ap, subst, arith, FitsSigned, to_z, of_z, to_z-of_z, w64}
use Rattle.decision_model.specs.Positions.{positions_from}
use Rattle.decision_model.specs.Serial.{serial_low}
use Rattle.serial_recursion.proofs.Frames.{low_cap, scale_none}
use Rattle.serial_recursion.proofs.frame.end_frame.Goals as goal

pub count_of-requires-clause-some : goal.count_of-requires-clause-some
count_of-requires-clause-some c =
    let serial = c.args.serial.now in
    let cap : FitsSigned w64 serial.cap = search rules in
    let low : FitsSigned w64 c.low-low.result = search rules in
    subst (λ (z : ℤ). z ≤ℤ to_z w64 (of_z w64 serial.cap)) (sym (to_z-of_z low ∙ c.low-low.ensures.low)) (subst (λ (z : ℤ). serial_low serial (serial.periods + 1) ≤ℤ z) (sym (to_z-of_z cap)) (low_cap serial c.requires (serial.periods + 1)))

pub returns : goal.returns
returns c =
    let serial = c.args.serial.now in
    let cap : FitsSigned w64 serial.cap = search rules in
    let low : FitsSigned w64 c.low-low.result = search rules in
    let last : serial.periods + 1 ≡ suc serial.periods - 0 = omega arith in
    let is_low = to_z-of_z low ∙ c.low-low.ensures.low ∙ ap (serial_low serial) last in
    record {
      is_low = is_low;
      is_count = c.count_of.ensures ∙ ap (λ z. positions_from z (to_z w64 (of_z w64 serial.cap))) is_low ∙ ap (positions_from (serial_low serial (suc serial.periods - 0))) (to_z-of_z cap);
      is_greatest = c.greatest.ensures;
      is_total = c.total.ensures;
      is_num = omega arith;
      is_scale = sym (scale_none serial c.requires);
      is_own_scale = λ some. absurd (omega (arith, some));
    }
