-- The tables of a recursion leave room for the rows of the next echelon.
use Rattle.std.proofs.Common.{◌≡◌, ℕ, zero, suc, ◌+◌, ◌-◌, ◌*◌, ◌^◌, ◌<◌, ◌≤◌, min, ℤ, pos, ◌+ℤ◌, List, length, sym, ◌∙◌, arith, subst}
use Rattle.std.proofs.Props.{props}
use Rattle.std.specs.Prelude.{unsigned_abs}
use Rattle.decision_model.specs.Serial.{IsValidSerial, serial_low, serial_positions}
use Rattle.decision_model.specs.SerialProblem.{law_of_period, unit_of}
use Rattle.decision_model.specs.declared.serial.Serial.{Serial}
use Rattle.value_cert.specs.SerialValues.{scale, row_width}
use Rattle.serial_lemmas.specs.Levels.{size_bound}
use Rattle.serial_lemmas.specs.Sizes.{size_sub}
use Rattle.serial_recursion.specs.Periods.{IsBounded}
use Rattle.serial_recursion.specs.Rows.{IsFrame, HasRoom, value_at, row_at, place_cost, charge_of}
use Rattle.serial_recursion.specs.declared.frame.Frame.{Frame}
use Rattle.serial_recursion.proofs.Frames.{place_on, width_some}
use Rattle.serial_recursion.proofs.Known.{from_hidden}
use Rattle.serial_recursion.proofs.Period.{t, n, cost_is}
use Rattle.serial_recursion.proofs.Rooms.{rows_most, count_most, room_costs, costs_small}

module _ (serial : Serial) (valid : IsValidSerial serial) (p : ℕ) (some : 1 ≤ p) (within : p ≤ serial.periods) (frame : Frame) (is : IsFrame serial p frame) (e : ℕ) (lt : e < length serial.holding)
    (values costs : List ℤ) (level : ℕ) (level_within : 1 ≤ e → level < frame.count) (bounded : ∥ IsBounded serial p e values costs level ∥₁) where
  abbrev tt' : ℕ
  tt' = t serial valid p some within frame is

  abbrev nn : ℕ
  nn = n serial valid p some within frame is

  pub rows_fit : frame.count + frame.greatest ≤ serial_positions serial
  rows_fit = rows_most serial valid p some within frame is

  pub count_fits : frame.count ≤ serial_positions serial
  count_fits = count_most serial valid p some within frame is

  pub count_some : 1 ≤ frame.count
  count_some = omega (arith, is.is_count, width_some serial valid tt')

  -- the values of the next period are in range
  later_small : (k : ℕ) → k < row_width serial (suc tt') → unsigned_abs (row_at values (e * serial_positions serial) k) ≤ scale serial nn * size_bound serial nn e
  later_small k small = from_hidden (Prim.hlevel props) bounded by
    where
      by : IsBounded serial p e values costs level → unsigned_abs (row_at values (e * serial_positions serial) k) ≤ scale serial nn * size_bound serial nn e
      by b =
          let on = place_on serial valid (suc tt') k small in
          subst (λ (z : ℤ). unsigned_abs z ≤ scale serial nn * size_bound serial nn e) (sym (b.holds.later e k (omega arith) lt small)) (b.bounded e (serial_low serial (suc tt') +ℤ pos k) lt on.0 on.1)

  pub orders_room : HasRoom frame (law_of_period serial tt') (unit_of serial e) (row_at values (e * serial_positions serial))
  orders_room = room_costs serial valid p some within frame is e (row_at values (e * serial_positions serial)) lt later_small

  -- so are the costs of orders of the echelon before
  pub old_small : 1 ≤ e → (k : ℕ) → k < frame.count → unsigned_abs (value_at costs k) ≤ 2 ^ 119
  old_small one k small = from_hidden (Prim.hlevel props) bounded by
    where
      inside : k < row_width serial tt'
      inside = omega (arith, small, is.is_count)

      by : IsBounded serial p e values costs level → unsigned_abs (value_at costs k) ≤ 2 ^ 119
      by b =
          subst (λ (z : ℤ). unsigned_abs z ≤ 2 ^ 119) (sym (b.holds.orders k one inside)) (costs_small serial valid p some within frame is b.F (e - 1) k b.bounded (omega (arith, lt)) inside)

  -- and those of the echelon
  pub new_small : (new_costs : List ℤ) → ((k : ℕ) → k < frame.count → value_at new_costs k ≡ place_cost frame (law_of_period serial tt') (unit_of serial e) (row_at values (e * serial_positions serial)) k) → (k : ℕ) → k < frame.count → unsigned_abs (value_at new_costs k) ≤ 2 ^ 119
  new_small new_costs ordered k small = from_hidden (Prim.hlevel props) bounded by
    where
      inside : k < row_width serial tt'
      inside = omega (arith, small, is.is_count)

      by : IsBounded serial p e values costs level → unsigned_abs (value_at new_costs k) ≤ 2 ^ 119
      by b =
          let exact = ordered k small ∙ cost_is serial valid p some within frame is b.F e k (row_at values (e * serial_positions serial)) (λ j before. b.holds.later e j (omega arith) lt before) inside in
          subst (λ (z : ℤ). unsigned_abs z ≤ 2 ^ 119) (sym exact) (costs_small serial valid p some within frame is b.F e k b.bounded lt inside)

  -- what the echelon is charged is the difference of two costs
  charge_small : (i k : ℕ) → (1 ≤ i → level < frame.count) → (1 ≤ i → (j : ℕ) → j < frame.count → unsigned_abs (value_at costs j) ≤ 2 ^ 119) → k < frame.count → unsigned_abs (charge_of i costs level k) ≤ 2 ^ 122
  charge_small zero k at small inside = omega arith
  charge_small (suc i) k at small inside =
      let one : 1 ≤ suc i = omega arith in
      let kept = small one (min k level) (omega (arith, inside, at one)) in
      omega (arith, size_sub (value_at costs (min k level)) (value_at costs level) (2 ^ 119) (2 ^ 119) kept (small one level (at one)))

  pub charges_small : (charges : List ℤ) → ((k : ℕ) → k < frame.count → value_at charges k ≡ charge_of e costs level k) → (k : ℕ) → k < frame.count → unsigned_abs (value_at charges k) ≤ 2 ^ 122
  charges_small charges charged k small = subst (λ (z : ℤ). unsigned_abs z ≤ 2 ^ 122) (sym (charged k small)) (charge_small e k level_within old_small small)
