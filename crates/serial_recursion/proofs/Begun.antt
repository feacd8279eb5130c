-- The tables of a recursion after the next echelon is begun.
use Rattle.std.proofs.Common.{◌≡◌, ℕ, suc, ◌+◌, ◌-◌, ◌*◌, ◌<◌, ◌≤◌, ℤ, pos, ◌+ℤ◌, Bool, true, false, cond, eqb, List, length, refl, sym, ◌∙◌, ap, arith, subst, ◌⊎◌, inl, inr}
use Rattle.std.proofs.lemmas.Bool.{cases_lt, eq-eqb, ne_eqb}
use Rattle.std.proofs.lemmas.Nat.{mul-le}
use Rattle.decision_model.specs.Serial.{IsValidSerial, serial_low, serial_positions}
use Rattle.decision_model.specs.declared.serial.Serial.{Serial}
use Rattle.value_cert.specs.SerialRules.{FirstRows, put_level, named_rows}
use Rattle.value_cert.specs.SerialValues.{order_cost, echelon_value, row_width}
use Rattle.value_cert.specs.declared.line.CertLine.TheVariants.{Echelon}
use Rattle.serial_lemmas.specs.Levels.{IsLevelAt}
use Rattle.serial_lemmas.specs.RowsLeast.{value_same}
use Rattle.serial_recursion.specs.Periods.{HoldsPeriod, IsBounded, IsWritten, cell_at}
use Rattle.serial_recursion.specs.Recursions.{KnowsTables}
use Rattle.serial_recursion.specs.Rows.{IsFrame, value_at, row_at, charge_of}
use Rattle.serial_recursion.specs.declared.frame.Frame.{Frame}
use Rattle.serial_recursion.proofs.Frames.{place_on}
use Rattle.serial_recursion.proofs.Period.{t, n, AreCosts, cost_is, charge_is, value_is}
use Rattle.serial_recursion.proofs.Rooms.{count_most}

-- the level that was put down last, and the others
put_here : (levels : ℕ → ℤ) (i : ℕ) (level : ℤ) → put_level levels i level i ≡ level
put_here levels i level = ap (λ b. cond b level (levels i)) (eq-eqb i i refl)

put_other : (levels : ℕ → ℤ) (i : ℕ) (level : ℤ) (j : ℕ) → (j ≡ i → ⊥) → put_level levels i level j ≡ levels j
put_other levels i level j differ = ap (λ b. cond b level (levels j)) (ne_eqb j i differ)

-- a cell of an echelon before, and of one after
pub before_row : (i e k positions : ℕ) → i < e → k < positions → i * positions + k < e * positions
before_row i e k positions lt small =
    let more = mul-le (i + 1) positions e positions (omega (arith, lt)) (omega arith) in
    let spread : (i + 1) * positions ≡ i * positions + positions = omega arith in
    omega (arith, more, spread, small)

after_row : (i e k count positions : ℕ) → e + 1 ≤ i → count ≤ positions → e * positions + count ≤ i * positions + k
after_row i e k count positions le few =
    let more = mul-le (e + 1) positions i positions le (omega arith) in
    let spread : (e + 1) * positions ≡ e * positions + positions = omega arith in
    omega (arith, more, spread, few)

module _ (serial : Serial) (valid : IsValidSerial serial) (p : ℕ) (some : 1 ≤ p) (within : p ≤ serial.periods) (frame : Frame) (is : IsFrame serial p frame) (e : ℕ) (lt : e < length serial.holding)
    (values costs : List ℤ) (level : ℕ) (new_values new_costs : List ℤ) (new_level : ℕ) where
  abbrev T' : ℕ
  T' = t serial valid p some within frame is

  abbrev N' : ℕ
  N' = n serial valid p some within frame is

  abbrev low : ℤ
  low = serial_low serial T'

  count_is : frame.count ≡ row_width serial T'
  count_is = is.is_count

  few : frame.count ≤ serial_positions serial
  few = count_most serial valid p some within frame is

  module _ (written : IsWritten serial frame T' e values costs level new_values new_costs new_level) where
    -- cells of echelons before stay
    kept_before : (i k : ℕ) → i < e → k < row_width serial T' → cell_at serial new_values i k ≡ cell_at serial values i k
    kept_before i k less small = written.below (i * serial_positions serial + k) (before_row i e k (serial_positions serial) less (omega (arith, small, count_is, few)))

    module _ (F : ℕ → ℤ → ℤ) (L : ℕ → ℤ) (holds : HoldsPeriod serial p e values costs level F L) where
      abbrev C : ℕ → ℤ → ℤ
      C = order_cost serial F N' T'

      abbrev L' : ℕ → ℤ
      L' = put_level L e (low +ℤ pos new_level)

      levels_before : (j : ℕ) → j < e → L j ≡ L' j
      levels_before j less = sym (put_other L e (low +ℤ pos new_level) j (λ same. absurd (omega (arith, same, less))))

      -- the costs of orders of the new echelon
      pub orders_are : (k : ℕ) → k < row_width serial T' → value_at new_costs k ≡ C e (low +ℤ pos k)
      orders_are k small =
          written.ordered k (omega (arith, small, count_is))
          ∙ cost_is serial valid p some within frame is F e k (row_at values (e * serial_positions serial)) (λ j inside. holds.later e j (omega arith) lt inside) small

      new_are : AreCosts serial valid p some within frame is (C e) (L' e) new_costs new_level
      new_are = record { costs_at = orders_are; level_within = omega (arith, written.is_level, count_is); level_at = sym (put_here L e (low +ℤ pos new_level)) }

      old_are : 1 ≤ e → AreCosts serial valid p some within frame is (C (e - 1)) (L' (e - 1)) costs level
      old_are one = record {
        costs_at = λ k small. holds.orders k one small;
        level_within = omega (arith, written.old_level one, count_is);
        level_at = holds.at_level one ∙ levels_before (e - 1) (omega (arith, one));
      }

      values_are : (k : ℕ) → k < row_width serial T' → cell_at serial new_values e k ≡ echelon_value serial C L' N' T' e (low +ℤ pos k)
      values_are k small =
          let inside : k < frame.count = omega (arith, small, count_is) in
          written.stored k inside
          ∙ value_is serial valid p some within frame is C L' e new_level k (charge_of e costs level k) new_costs new_are (charge_is serial valid p some within frame is C L' e level k costs old_are small) small

      back : e + 1 - 1 ≡ e
      back = omega arith

      pub holds_next : HoldsPeriod serial p (e + 1) new_values new_costs new_level F L'
      holds_next = record {
        later = λ i k le inside small. written.above (i * serial_positions serial + k) (after_row i e k frame.count (serial_positions serial) le few) ∙ holds.later i k (omega (arith, le)) inside small;
        done = λ i k less small. by i k small less (cases_lt i e);
        orders = λ k one small. subst (λ (j : ℕ). value_at new_costs k ≡ C j (low +ℤ pos k)) (sym back) (orders_are k small);
        at_level = λ one. subst (λ (j : ℕ). low +ℤ pos new_level ≡ L' j) (sym back) (sym (put_here L e (low +ℤ pos new_level)));
      }
        where
          by : (i k : ℕ) → k < row_width serial T' → i < e + 1 → (i < e) ⊎ (e ≤ i) → cell_at serial new_values i k ≡ echelon_value serial C L' N' T' i (low +ℤ pos k)
          by i k small less (inl below) =
              kept_before i k below small ∙ holds.done i k below small
              ∙ value_same serial C L L' N' T' i (low +ℤ pos k) (λ j le. levels_before j (omega (arith, le, below)))
          by i k small less (inr above) =
              let same : e ≡ i = omega (arith, less, above) in
              subst (λ (j : ℕ). cell_at serial new_values j k ≡ echelon_value serial C L' N' T' j (low +ℤ pos k)) same (values_are k small)

    -- the values and levels are in range
    pub bounded_next : IsBounded serial p e values costs level → IsBounded serial p (e + 1) new_values new_costs new_level
    bounded_next before = record {
      F = before.F;
      L = put_level before.L e (low +ℤ pos new_level);
      bounded = before.bounded;
      on_grid = λ i inside. by i (eqb i e) (before.on_grid i inside);
      holds = holds_next before.F before.L before.holds;
    }
      where
        by : (i : ℕ) (b : Bool) → IsLevelAt low serial.cap (before.L i) → IsLevelAt low serial.cap (cond b (low +ℤ pos new_level) (before.L i))
        by i true on = let at = place_on serial valid T' new_level (omega (arith, written.is_level, count_is)) in record { from_low = at.0; to_cap = at.1 }
        by i false on = on

    -- what the tables hold with the next echelon
    pub knows_next : (cells : ℕ) (first : FirstRows) (echelon S : ℤ) → (1 ≤ e → row_width serial T' ≤ cells) → low +ℤ pos new_level ≡ S → KnowsTables serial p e cells values costs level first → KnowsTables serial p (e + 1) 0 new_values new_costs new_level (named_rows first (Echelon echelon S))
    knows_next cells first echelon S whole at knows = record {
      periods_are = knows.periods_are;
      echelons_are = omega (arith, knows.echelons_are);
      cells_are = refl;
      period = λ one.
          subst (λ (j : ℕ). HoldsPeriod serial p (e + 1) new_values new_costs new_level first.later (put_level first.levels j S)) knows.echelons_are
          (subst (λ (z : ℤ). HoldsPeriod serial p (e + 1) new_values new_costs new_level first.later (put_level first.levels e z)) at
          (holds_next first.later first.levels (knows.period one)));
      kept = λ i k less small last. by i k less small last (cases_lt i e);
      ends = λ none. absurd (omega (arith, none, some));
    }
      where
        by : (i k : ℕ) → i < e + 1 → k < row_width serial T' → (suc i ≡ e + 1 → k < 0) → (i < e) ⊎ (e ≤ i) → cell_at serial new_values i k ≡ first.values i (low +ℤ pos k)
        by i k less small last (inl below) = kept_before i k below small ∙ knows.kept i k below small (λ same. omega (arith, small, whole (omega (arith, below))))
        by i k less small last (inr above) = absurd (omega (arith, last (omega (arith, less, above))))
