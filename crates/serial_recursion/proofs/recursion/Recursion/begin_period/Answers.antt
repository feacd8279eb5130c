use Rattle.std.proofs.Common.{◌≡◌, ◌⊎◌, inl, inr, ℕ, zero, suc, ◌+◌, ◌*◌, ◌<◌, ◌≤◌, List, ℤ, length, arith, subst}
use Rattle.std.proofs.Props.{props}
use mathlib.Core.Logic.{∥∥₁_elim}
use Rattle.decision_model.specs.Serial.{IsValidSerial, serial_positions}
use Rattle.decision_model.specs.declared.serial.Serial.{Serial}
use Rattle.value_cert.specs.SerialValues.{row_width}
use Rattle.serial_recursion.proofs.Facts.{whole_parts}
use Rattle.serial_recursion.proofs.Known.{valid_known}
use Rattle.serial_recursion.proofs.PeriodSteps.{bounded_first, bounded_period, knows_period}
use Rattle.serial_recursion.specs.Periods.{IsBounded, IsFresh}
use Rattle.serial_recursion.specs.Rows.{IsFrame, period_of}
use Rattle.serial_recursion.proofs.recursion.Recursion.begin_period.Goals as goal

pub next_frame-self-requires-clause-valid : goal.next_frame-self-requires-clause-valid
next_frame-self-requires-clause-valid c = valid_known c.args.self.now.serial.now c.args.self.now.valid

pub overflow_add-self : goal.overflow_add-self
overflow_add-self c = omega (arith, c.requires.left, (valid_known c.args.self.now.serial.now c.args.self.now.valid).regular.readable.periods.most)

-- values and levels of the period that is begun are in range
hidden : (serial : Serial) (valid : IsValidSerial serial) (p e cells : ℕ) (values costs : List ℤ) (level : ℕ) → p < serial.periods → (p ≡ 0 → IsFresh e cells values) → length values ≡ length serial.holding * serial_positions serial → (1 ≤ p → ∥ IsBounded serial p e values costs level ∥₁)
    → (p ≡ 0) ⊎ ((e ≡ length serial.holding) × (row_width serial (period_of serial p) ≤ cells)) → (p ≡ 0) ⊎ (1 ≤ p) → ∥ IsBounded serial (p + 1) 0 values costs level ∥₁
hidden serial valid p e cells values costs level left fresh wide bounded whole (inl none) = ∣ bounded_first serial valid p e cells values costs level left (fresh none) none wide ∣₁
hidden serial valid p e cells values costs level left fresh wide bounded (inl none) (inr some) = absurd (omega (arith, none, some))
hidden serial valid p e cells values costs level left fresh wide bounded (inr all) (inr some) =
    ∥∥₁_elim (bounded some) (Prim.hlevel props) (λ before. ∣ bounded_period serial valid p e cells values costs level left some all.0 before ∣₁)

none_or_some : (p : ℕ) → (p ≡ 0) ⊎ (1 ≤ p)
none_or_some zero = inl (omega arith)
none_or_some (suc p) = inr (omega arith)

pub invariant_of-self : goal.invariant_of-self
invariant_of-self c =
    let r = c.args.self.now in
    let serial = r.serial.now in
    let valid = valid_known serial r.valid in
    let more : suc r.periods ≡ r.periods + 1 = omega arith in
    record {
      valid = r.valid;
      tables = r.tables;
      within = omega (arith, c.requires.left);
      echelons_within = omega arith;
      level_within = λ one. absurd (omega (arith, one));
      is_frame = subst (λ (q : ℕ). IsFrame serial q c.next_frame-self.result) more c.next_frame-self.ensures;
      fresh = λ none. absurd (omega (arith, none));
      bounded = λ one. hidden serial valid r.periods r.echelons r.cells r.values.now r.costs.now r.level c.requires.left r.fresh r.tables.are_values r.bounded (whole_parts serial r.periods r.echelons r.cells c.requires.whole) (none_or_some r.periods);
    }

pub returns-clause-knows : goal.returns-clause-knows
returns-clause-knows c = λ first period knows.
    let r = c.args.self.now in
    let serial = r.serial.now in
    knows_period serial (valid_known serial r.valid) r.periods r.echelons r.cells r.values.now r.costs.now r.level c.requires.left first period r.fresh r.tables.are_values (whole_parts serial r.periods r.echelons r.cells c.requires.whole) knows
