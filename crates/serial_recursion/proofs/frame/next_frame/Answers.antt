use Rattle.std.proofs.Common.{rules, ◌≡◌, ◌-◌, ◌*◌, suc, ℤ, ◌≤ℤ◌, sym, ◌∙◌, ap, subst, arith, FitsSigned, to_z, of_z, to_z-of_z, w64}
use Rattle.decision_model.specs.Positions.{positions_from}
use Rattle.decision_model.specs.Serial.{serial_low}
use Rattle.value_cert.specs.SerialValues.{scale, demand_scale}
use Rattle.serial_recursion.proofs.Frames.{low_cap, scale_next, own_next, scale_fits, own_fits}
use Rattle.serial_recursion.proofs.frame.next_frame.Goals as goal

pub overflow_mul-own_scale : goal.overflow_mul-own_scale
overflow_mul-own_scale c =
    let serial = c.args.serial.now in
    let p = c.args.periods in
    let is : c.args.frame.now.scale * c.from.result ≡ scale serial p * serial.discount_den = ap (λ k. k * c.from.result) c.requires.frame.is_scale ∙ ap (λ k. scale serial p * k) c.from.ensures in
    omega (arith, is, own_fits serial c.requires.valid p c.requires.left)

pub count_of-requires-clause-some : goal.count_of-requires-clause-some
count_of-requires-clause-some c =
    let serial = c.args.serial.now in
    let cap : FitsSigned w64 serial.cap = search rules in
    let low : FitsSigned w64 c.low-low.result = search rules in
    subst (λ (z : ℤ). z ≤ℤ to_z w64 (of_z w64 serial.cap)) (sym (to_z-of_z low ∙ c.low-low.ensures.low)) (subst (λ (z : ℤ). serial_low serial (serial.periods - c.args.periods) ≤ℤ z) (sym (to_z-of_z cap)) (low_cap serial c.requires.valid (serial.periods - c.args.periods)))

pub overflow_mul-result : goal.overflow_mul-result
overflow_mul-result c =
    let serial = c.args.serial.now in
    let p = c.args.periods in
    let is : c.args.frame.now.scale * c.from.result * c.args.frame.now.total ≡ scale serial (suc p) =
    ap (λ k. k * c.from.result * c.args.frame.now.total) c.requires.frame.is_scale ∙ ap (λ k. scale serial p * k * c.args.frame.now.total) c.from.ensures
    ∙ ap (λ k. scale serial p * serial.discount_den * k) c.requires.frame.is_total ∙ scale_next serial c.requires.valid p in
    omega (arith, is, scale_fits serial c.requires.valid (suc p) (omega (arith, c.requires.left)))

pub returns : goal.returns
returns c =
    let serial = c.args.serial.now in
    let p = c.args.periods in
    let frame = c.requires.frame in
    let cap : FitsSigned w64 serial.cap = search rules in
    let low : FitsSigned w64 c.low-low.result = search rules in
    let here : serial.periods - p ≡ suc serial.periods - suc p = omega arith in
    let is_low = to_z-of_z low ∙ c.low-low.ensures.low ∙ ap (serial_low serial) here in
    let own = ap (λ k. k * c.from.result) frame.is_scale ∙ ap (λ k. scale serial p * k) c.from.ensures in
    let last : p ≡ suc p - 1 = omega arith in
    record {
      is_low = is_low;
      is_count = c.count_of.ensures ∙ ap (λ z. positions_from z (to_z w64 (of_z w64 serial.cap))) is_low ∙ ap (positions_from (serial_low serial (suc serial.periods - suc p))) (to_z-of_z cap);
      is_greatest = frame.is_greatest;
      is_total = frame.is_total;
      is_num = frame.is_num;
      is_scale = ap (λ k. k * c.args.frame.now.total) own ∙ ap (λ k. scale serial p * serial.discount_den * k) frame.is_total ∙ scale_next serial c.requires.valid p;
      is_own_scale = λ some. own ∙ own_next serial c.requires.valid p ∙ ap (demand_scale serial) last;
    }
