-- The tables of a recursion after a period is begun, and after a position is kept.
use Rattle.std.proofs.Common.{◌≡◌, ℕ, suc, ◌+◌, ◌-◌, ◌*◌, ◌<◌, ◌≤◌, ℤ, pos, ◌+ℤ◌, Bool, true, false, cond, eqb, ◌&&◌, List, length, refl, sym, ◌∙◌, ap, arith, subst, ◌⊎◌, inl, inr}
use Rattle.std.proofs.lemmas.Bool.{cases_lt, eq-eqb, and_parts, and_from, eqb-true}
use Rattle.std.proofs.lemmas.Int.{ints}
use Rattle.std.specs.Int.Signed.{≤ℤ_refl}
use Rattle.decision_model.specs.Serial.{IsValidSerial, serial_low, serial_positions}
use Rattle.decision_model.specs.declared.serial.Serial.{Serial}
use Rattle.value_cert.specs.Numbers.{is_number}
use Rattle.value_cert.specs.RuleTests.{same_number, number_at}
use Rattle.value_cert.specs.SerialRules.{FirstRows, named_rows, last_period}
use Rattle.value_cert.specs.SerialValues.{order_cost, echelon_value, no_values, row_width}
use Rattle.value_cert.specs.declared.line.CertLine.TheVariants.{Period, Part}
use Rattle.serial_lemmas.specs.BoundedValues.{AreBounded, bounded_values, bounded_last}
use Rattle.serial_recursion.specs.Periods.{HoldsPeriod, IsBounded, IsFresh, cell_at, next_at}
use Rattle.serial_recursion.specs.Recursions.{KnowsTables}
use Rattle.serial_recursion.specs.Rows.{period_of}
use Rattle.serial_recursion.proofs.Begun.{before_row}
use Rattle.serial_recursion.proofs.Frames.{readable, low_cap, width_most}

-- rows that hold values of the last period are those of the next one, where none of its echelons is begun
rows_begun : (serial : Serial) (p : ℕ) (values costs : List ℤ) (level : ℕ) (G : ℕ → ℤ → ℤ) (L : ℕ → ℤ) → p < serial.periods
    → ((i k : ℕ) → i < length serial.holding → k < row_width serial (period_of serial p) → cell_at serial values i k ≡ G i (serial_low serial (period_of serial p) +ℤ pos k)) → HoldsPeriod serial (p + 1) 0 values costs level G L
rows_begun serial p values costs level G L left each = record {
  later = λ i k le inside small.
      subst (λ (s : ℕ). k < row_width serial s → cell_at serial values i k ≡ G i (serial_low serial s +ℤ pos k)) before (each i k inside) small;
  done = λ i k less small. absurd (omega (arith, less));
  orders = λ k one small. absurd (omega (arith, one));
  at_level = λ one. absurd (omega (arith, one));
}
  where
    before : period_of serial p ≡ suc (period_of serial (p + 1))
    before = omega (arith, left)

module _ (serial : Serial) (valid : IsValidSerial serial) (p e cells : ℕ) (values costs : List ℤ) (level : ℕ) (left : p < serial.periods) where
  -- the cells of a fresh recursion
  fresh_cells : IsFresh e cells values → p ≡ 0 → length values ≡ length serial.holding * serial_positions serial → (i k : ℕ) → i < length serial.holding → k < row_width serial (period_of serial p) → cell_at serial values i k ≡ pos 0
  fresh_cells fresh none wide i k inside small =
      fresh.zeros (i * serial_positions serial + k)
      (omega (arith, wide, before_row i (length serial.holding) k (serial_positions serial) inside (omega (arith, small, width_most serial valid (period_of serial p) (omega arith)))))

  -- values and levels of the period that is begun are in range
  from_values : (G : ℕ → ℤ → ℤ) → AreBounded serial p (period_of serial p) G
      → ((i k : ℕ) → i < length serial.holding → k < row_width serial (period_of serial p) → cell_at serial values i k ≡ G i (serial_low serial (period_of serial p) +ℤ pos k)) → IsBounded serial (p + 1) 0 values costs level
  from_values G bounded each =
      let low = λ (i : ℕ). serial_low serial (period_of serial (p + 1)) in
      let same : p ≡ p + 1 - 1 = omega arith in
      let before : period_of serial p ≡ suc (period_of serial (p + 1)) = omega (arith, left) in
      record {
        F = G;
        L = low;
        bounded = subst (λ (s : ℕ). AreBounded serial (p + 1 - 1) s G) before (subst (λ (m : ℕ). AreBounded serial m (period_of serial p) G) same bounded);
        on_grid = λ i inside. record { from_low = ≤ℤ_refl (serial_low serial (period_of serial (p + 1))); to_cap = low_cap serial valid (period_of serial (p + 1)) };
        holds = rows_begun serial p values costs level G low left each;
      }

  pub bounded_first : IsFresh e cells values → p ≡ 0 → length values ≡ length serial.holding * serial_positions serial → IsBounded serial (p + 1) 0 values costs level
  bounded_first fresh none wide =
      from_values no_values (subst (λ (m : ℕ). AreBounded serial m (period_of serial p) no_values) (sym none) (bounded_last serial (readable serial valid) (period_of serial p))) (fresh_cells fresh none wide)

  pub bounded_period : 1 ≤ p → e ≡ length serial.holding → IsBounded serial p e values costs level → IsBounded serial (p + 1) 0 values costs level
  bounded_period some all before =
      let t = period_of serial p in
      let n = p - 1 in
      let G = echelon_value serial (order_cost serial before.F n t) before.L n t in
      let e' : suc n ≡ p = omega (arith, some) in
      let sized = bounded_values serial (readable serial valid) before.F n t (omega (arith, left)) (omega (arith, left, some)) before.bounded before.L before.on_grid in
      from_values G (subst (λ (m : ℕ). AreBounded serial m t G) e' sized) (λ i k inside small. before.holds.done i k (omega (arith, inside, all)) small)

  -- what the tables hold with the next period
  pub knows_period : (first : FirstRows) (period : ℤ) → (p ≡ 0 → IsFresh e cells values) → length values ≡ length serial.holding * serial_positions serial → (p ≡ 0) ⊎ ((e ≡ length serial.holding) × (row_width serial (period_of serial p) ≤ cells)) → KnowsTables serial p e cells values costs level first → KnowsTables serial (p + 1) 0 0 values costs level (named_rows first (Period period))
  knows_period first period fresh wide whole knows = record {
    periods_are = omega (arith, knows.periods_are);
    echelons_are = refl;
    cells_are = refl;
    period = λ one. rows_begun serial p values costs level first.values first.levels left (λ i k inside small. by i k inside small whole);
    kept = λ i k less small last. absurd (omega (arith, less));
    ends = λ none. absurd (omega (arith, none));
  }
    where
      by : (i k : ℕ) → i < length serial.holding → k < row_width serial (period_of serial p) → (p ≡ 0) ⊎ ((e ≡ length serial.holding) × (row_width serial (period_of serial p) ≤ cells)) → cell_at serial values i k ≡ first.values i (serial_low serial (period_of serial p) +ℤ pos k)
      by i k inside small (inl none) = fresh_cells (fresh none) none wide i k inside small ∙ sym (knows.ends none i (serial_low serial (period_of serial p) +ℤ pos k))
      by i k inside small (inr all) = knows.kept i k (omega (arith, inside, all.0)) small (λ same. omega (arith, small, all.1))

-- the value that is found, as the rows name it
pub found_is : (serial : Serial) (p e cells : ℕ) (values costs : List ℤ) (level : ℕ) (first : FirstRows) → 1 ≤ p → 1 ≤ e → cells < row_width serial (period_of serial p) → KnowsTables serial p e cells values costs level first
    → cell_at serial values (e - 1) cells ≡ echelon_value serial (order_cost serial first.later (first.periods - 1) (last_period serial first)) first.levels (first.periods - 1) (last_period serial first) (first.echelons - 1) (next_at serial first.periods first.cells)
found_is serial p e cells values costs level first some one lt knows =
    (knows.period some).done (e - 1) cells (omega (arith, one)) lt
    ∙ ap (λ q. echelon_value serial (order_cost serial first.later (q - 1) (period_of serial q)) first.levels (q - 1) (period_of serial q) (e - 1) (serial_low serial (period_of serial q) +ℤ pos cells)) knows.periods_are
    ∙ ap (λ i. echelon_value serial (order_cost serial first.later (first.periods - 1) (last_period serial first)) first.levels (first.periods - 1) (last_period serial first) (i - 1) (next_at serial first.periods cells)) knows.echelons_are
    ∙ ap (λ k. echelon_value serial (order_cost serial first.later (first.periods - 1) (last_period serial first)) first.levels (first.periods - 1) (last_period serial first) (first.echelons - 1) (next_at serial first.periods k)) knows.cells_are

-- what the tables hold with one more position
pub knows_kept : (serial : Serial) (p e cells : ℕ) (values costs : List ℤ) (level : ℕ) (first : FirstRows) (at value : ℤ) → 1 ≤ p → 1 ≤ e → cells < row_width serial (period_of serial p) → at ≡ next_at serial first.periods first.cells
    → value ≡ echelon_value serial (order_cost serial first.later (first.periods - 1) (last_period serial first)) first.levels (first.periods - 1) (last_period serial first) (first.echelons - 1) (next_at serial first.periods first.cells)
    → KnowsTables serial p e cells values costs level first → KnowsTables serial p e (cells + 1) values costs level (named_rows first (Part at value))
knows_kept serial p e cells values costs level first at value some one lt at_is exact knows = record {
  periods_are = knows.periods_are;
  echelons_are = knows.echelons_are;
  cells_are = omega (arith, knows.cells_are);
  period = knows.period;
  kept = λ i k less small last. by i k less small last (eqb i (first.echelons - 1) && is_number at (x k)) refl;
  ends = λ none. absurd (omega (arith, none, some));
}
  where
    x : ℕ → ℤ
    x k = serial_low serial (period_of serial p) +ℤ pos k

    here : at ≡ serial_low serial (period_of serial p) +ℤ pos cells
    here = at_is ∙ ap (λ q. next_at serial q first.cells) (sym knows.periods_are) ∙ ap (next_at serial p) (sym knows.cells_are)

    value_is : cell_at serial values (e - 1) cells ≡ value
    value_is = found_is serial p e cells values costs level first some one lt knows ∙ sym exact

    by : (i k : ℕ) → i < e → k < row_width serial (period_of serial p) → (suc i ≡ e → k < cells + 1) → (b : Bool) → eqb i (first.echelons - 1) && is_number at (x k) ≡ b → cell_at serial values i k ≡ cond b value (first.values i (serial_low serial (period_of serial p) +ℤ pos k))
    by i k less small last true test =
        let parts = and_parts (eqb i (first.echelons - 1)) (is_number at (x k)) test in
        let same : e - 1 ≡ i = omega (arith, eqb-true i (first.echelons - 1) parts.0, knows.echelons_are) in
        let place : cells ≡ k = placed (serial_low serial (period_of serial p)) here (same_number at (x k) parts.1) in
        subst (λ (j : ℕ). cell_at serial values j k ≡ value) same (subst (λ (j : ℕ). cell_at serial values (e - 1) j ≡ value) place value_is)
      where
        placed : (low : ℤ) → at ≡ low +ℤ pos cells → at ≡ low +ℤ pos k → cells ≡ k
        placed low a b = omega (arith, ints, a, b)
    by i k less small last false test = knows.kept i k less small (λ same. before same (cases_lt k cells))
      where
        before : suc i ≡ e → (k < cells) ⊎ (cells ≤ k) → k < cells
        before same (inl below) = below
        before same (inr above) =
            let place : cells ≡ k = omega (arith, above, last same) in
            let echelon : i ≡ first.echelons - 1 = omega (arith, same, knows.echelons_are) in
            let holds = and_from (eqb i (first.echelons - 1)) (is_number at (x k)) (eq-eqb i (first.echelons - 1) echelon) (number_at at (x k) (here ∙ ap (λ (j : ℕ). serial_low serial (period_of serial p) +ℤ pos j) place)) in
            absurd (cc (holds, test))
