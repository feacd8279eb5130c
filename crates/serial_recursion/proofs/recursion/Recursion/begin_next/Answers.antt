use Rattle.std.proofs.Common.{arith}
use Rattle.std.proofs.Props.{props}
use mathlib.Core.Logic.{∥∥₁_elim}
use Rattle.serial_recursion.proofs.Begun.{bounded_next, knows_next}
use Rattle.serial_recursion.proofs.Facts.{ready_parts}
use Rattle.serial_recursion.proofs.Known.{valid_known}
use Rattle.serial_recursion.proofs.recursion.Recursion.begin_next.Goals as goal

pub begin_echelon-place-requires-clause-valid : goal.begin_echelon-place-requires-clause-valid
begin_echelon-place-requires-clause-valid c = valid_known c.args.self.now.serial.now c.args.self.now.valid

pub overflow_add-self : goal.overflow_add-self
overflow_add-self c =
    let r = c.args.self.now in
    let serial = r.serial.now in
    omega (arith, (ready_parts serial r.periods r.echelons r.cells c.requires.ready).1.1, (valid_known serial r.valid).regular.readable.most_echelons)

pub invariant_of-self : goal.invariant_of-self
invariant_of-self c =
    let r = c.args.self.now in
    let serial = r.serial.now in
    let valid = valid_known serial r.valid in
    let parts = ready_parts serial r.periods r.echelons r.cells c.requires.ready in
    let b = c.begin_echelon-place in
    record {
      valid = r.valid;
      tables = b.ensures.tables;
      within = r.within;
      echelons_within = omega (arith, parts.1.1);
      level_within = λ one. b.ensures.written.is_level;
      is_frame = r.is_frame;
      fresh = λ none. absurd (omega (arith, none, parts.0));
      bounded = λ one.
          ∥∥₁_elim (r.bounded one) (Prim.hlevel props)
          (λ before. ∣ bounded_next serial valid r.periods one r.within r.frame r.is_frame r.echelons parts.1.1 r.values.now r.costs.now r.level b.new.values b.new.costs c.begin_echelon-place.result b.ensures.written before ∣₁);
    }

pub returns-clause-knows : goal.returns-clause-knows
returns-clause-knows c = λ first echelon level knows at.
    let r = c.args.self.now in
    let serial = r.serial.now in
    let parts = ready_parts serial r.periods r.echelons r.cells c.requires.ready in
    let b = c.begin_echelon-place in
    knows_next serial (valid_known serial r.valid) r.periods parts.0 r.within r.frame r.is_frame r.echelons parts.1.1 r.values.now r.costs.now r.level b.new.values b.new.costs b.result b.ensures.written r.cells first echelon level parts.1.0 at knows
