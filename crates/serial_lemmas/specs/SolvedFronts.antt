-- Rows that have the solver's levels and values so far, and how they go on.
use Rattle.std.proofs.Common.{◌≡◌, ℕ, zero, suc, ◌+◌, ◌-◌, ◌<◌, ◌≤◌, ◌==◌, Bool, true, false, cond, ◌&&◌, ℤ, pos, ◌+ℤ◌, ◌-ℤ◌, ◌≤ℤ◌, ◌<ℤ◌, ◌⊎◌, inl, inr, length, refl, sym, ◌∙◌, ap, subst, arith}
use Rattle.std.proofs.lemmas.Bool.{and_from, cases_lt, eq-eqb, false_from_ne_true, ne_eqb}
use Rattle.std.proofs.lemmas.Int.{ints, by_lt_z}
use Rattle.decision_model.specs.Positions.{above_zero}
use Rattle.decision_model.specs.Serial.{IsReadableSerial, serial_low}
use Rattle.decision_model.specs.declared.serial.Serial.{Serial}
use Rattle.serial_lemmas.specs.Levels.{IsLeastPosition}
use Rattle.serial_lemmas.specs.RowsLeast.{place_is}
use Rattle.serial_lemmas.specs.SolvedKept.{AreLeast, grid_some, costs_are, level_is, least_is, value_is}
use Rattle.value_cert.specs.Numbers.{is_number}
use Rattle.value_cert.specs.RuleTests.{number_at, same_number}
use Rattle.value_cert.specs.SerialRules.{FirstRows, no_rows, named_rows, put_level, put_value, last_period}
use Rattle.value_cert.specs.SerialValues.{order_cost, echelon_value, levels_for, row_width, solved_level, solved_costs, solved_values}
use Rattle.value_cert.specs.declared.line.CertLine.TheVariants.{Period, Echelon, Part}

-- the solver's values of the period after the last one, and of this one its levels and values so far
pub record AreSolved (serial : Serial) (readable : IsReadableSerial serial) (first : FirstRows) : Type 0 where
  pub within : first.periods ≤ serial.periods
  pub none : first.periods ≡ 0 → (i : ℕ) (x : ℤ) → first.values i x ≡ pos 0
  pub later : 1 ≤ first.periods → AreLeast serial readable (first.periods - 1) (suc (last_period serial first)) first.later
  pub levels : (i : ℕ) → i < first.echelons → first.levels i ≡ solved_level serial (first.periods - 1) (last_period serial first) i
  pub values : (i place : ℕ) → i < first.echelons → place < row_width serial (last_period serial first) → (suc i ≡ first.echelons → place < first.cells)
      → first.values i (serial_low serial (last_period serial first) +ℤ pos place) ≡ solved_values serial first.periods (last_period serial first) i (serial_low serial (last_period serial first) +ℤ pos place)

-- another number
other_number : (a b : ℤ) → (a ≡ b → ⊥) → is_number a b ≡ false
other_number a b differ = false_from_ne_true (is_number a b) (λ same. differ (same_number a b same))

second_fails : (a b : Bool) → b ≡ false → (a && b) ≡ false
second_fails true b e = e
second_fails false b e = refl

-- the least position of functions that are the same on the grid
same_least : (f g : ℤ → ℤ) (p q low cap : ℤ) → ((y : ℤ) → low ≤ℤ y → y ≤ℤ cap → f y ≡ g y) → IsLeastPosition f p low cap → IsLeastPosition g q low cap → p ≡ q
same_least f g p q low cap same of_f of_g =
    by_lt_z p q
    (λ less. absurd (omega (arith, ints, of_g.first p of_f.from_low less, of_f.least q of_g.from_low of_g.to_cap, same p of_f.from_low of_f.to_cap, same q of_g.from_low of_g.to_cap)))
    (λ more. by_lt_z q p
    (λ less. absurd (omega (arith, ints, of_f.first q of_g.from_low less, of_g.least p of_f.from_low of_f.to_cap, same p of_f.from_low of_f.to_cap, same q of_g.from_low of_g.to_cap)))
    (λ least. omega (arith, ints, more, least)))

module _ (serial : Serial) (readable : IsReadableSerial serial) where
  -- no row yet
  pub none_solved : AreSolved serial readable no_rows
  none_solved = record {
    within = omega arith;
    none = λ e i x. refl;
    later = λ some. absurd (omega (arith, some));
    levels = λ i lt. absurd (omega (arith, lt));
    values = λ i place lt. absurd (omega (arith, lt));
  }

  -- the values of a whole period are the least ones
  pub whole_solved : (first : FirstRows) → AreSolved serial readable first → (1 ≤ first.periods → (first.echelons ≡ length serial.holding) × (row_width serial (last_period serial first) ≤ first.cells))
      → AreLeast serial readable first.periods (last_period serial first) first.values
  whole_solved first are whole i x lt from to = by_periods first.periods refl
    where
      t : ℕ
      t = last_period serial first

      by_periods : (k : ℕ) → first.periods ≡ k → first.values i x ≡ solved_values serial first.periods t i x
      by_periods zero e = are.none e i x ∙ sym (ap (λ (n : ℕ). solved_values serial n t i x) e)
      by_periods (suc n) e =
          let all = whole (omega (arith, e)) in
          let place = place_is (serial_low serial t) serial.cap x from to in
          let at = are.values i (above_zero (x -ℤ serial_low serial t)) (omega (arith, lt, all.0)) place.1 (λ last. omega (arith, place.1, all.1)) in
          ap (first.values i) place.0 ∙ at ∙ ap (solved_values serial first.periods t i) (sym place.0)

  -- one more period
  pub period_solved : (first : FirstRows) (period : ℤ) → AreSolved serial readable first → first.periods < serial.periods
      → (1 ≤ first.periods → (first.echelons ≡ length serial.holding) × (row_width serial (last_period serial first) ≤ first.cells))
      → AreSolved serial readable (named_rows first (Period period))
  period_solved first period are left whole =
      let t : suc serial.periods - first.periods ≡ suc (suc serial.periods - suc first.periods) = omega (arith, left) in
      let n : first.periods ≡ suc first.periods - 1 = omega arith in
      record {
        within = omega (arith, left);
        none = λ e. absurd (omega (arith, e));
        later = λ some.
            subst (λ (k : ℕ). AreLeast serial readable k (suc (suc serial.periods - suc first.periods)) first.values) n
            (subst (λ (s : ℕ). AreLeast serial readable first.periods s first.values) t (whole_solved first are whole));
        levels = λ i lt. absurd (omega (arith, lt));
        values = λ i place lt. absurd (omega (arith, lt));
      }

  -- the level of the next echelon
  pub level_solved : (first : FirstRows) → AreSolved serial readable first → 1 ≤ first.periods → first.echelons < length serial.holding
      → levels_for serial (order_cost serial first.later (first.periods - 1) (last_period serial first)) (last_period serial first) first.echelons ≡ solved_level serial (first.periods - 1) (last_period serial first) first.echelons
  level_solved first are some lt =
      let n = first.periods - 1 in
      let t = last_period serial first in
      let i = first.echelons in
      same_least (order_cost serial first.later n t i) (solved_costs serial n t i) _ _ (serial_low serial t) serial.cap
      (costs_are serial readable first.later n t (omega (arith, are.within, some)) (are.later some) i lt)
      (least_is (serial_low serial t) serial.cap (order_cost serial first.later n t i) (grid_some serial readable t))
      (level_is serial readable n t i)

  -- one more echelon
  pub echelon_solved : (first : FirstRows) (echelon level : ℤ) → AreSolved serial readable first → (1 ≤ first.echelons → row_width serial (last_period serial first) ≤ first.cells)
      → level ≡ solved_level serial (first.periods - 1) (last_period serial first) first.echelons → AreSolved serial readable (named_rows first (Echelon echelon level))
  echelon_solved first echelon level are whole is = record {
    within = are.within;
    none = are.none;
    later = are.later;
    levels = λ i lt. by_place i lt (cases_lt i first.echelons);
    values = λ i place lt inside last. by_last i place lt inside last (cases_lt i first.echelons);
  }
    where
      solved : ℕ → ℤ
      solved = solved_level serial (first.periods - 1) (last_period serial first)

      by_place : (i : ℕ) → i < suc first.echelons → (i < first.echelons) ⊎ (first.echelons ≤ i) → put_level first.levels first.echelons level i ≡ solved i
      by_place i lt (inl lower) = ap (λ b. cond b level (first.levels i)) (ne_eqb i first.echelons (λ same. absurd (omega (arith, lower, same)))) ∙ are.levels i lower
      by_place i lt (inr upper) =
          let same : i ≡ first.echelons = omega (arith, lt, upper) in
          ap (λ b. cond b level (first.levels i)) (eq-eqb i first.echelons same) ∙ is ∙ ap solved (sym same)

      by_last : (i place : ℕ) → i < suc first.echelons → place < row_width serial (last_period serial first) → (suc i ≡ suc first.echelons → place < 0) → (i < first.echelons) ⊎ (first.echelons ≤ i)
          → first.values i (serial_low serial (last_period serial first) +ℤ pos place) ≡ solved_values serial first.periods (last_period serial first) i (serial_low serial (last_period serial first) +ℤ pos place)
      by_last i place lt inside last (inl lower) = are.values i place lower inside (λ e. omega (arith, inside, whole (omega (arith, lower))))
      by_last i place lt inside last (inr upper) = absurd (omega (arith, last (omega (arith, lt, upper))))

  -- the value at the next position of the last echelon
  pub value_solved : (first : FirstRows) (x : ℤ) → AreSolved serial readable first → 1 ≤ first.periods → 1 ≤ first.echelons → first.echelons ≤ length serial.holding
      → serial_low serial (last_period serial first) ≤ℤ x → x ≤ℤ serial.cap
      → echelon_value serial (order_cost serial first.later (first.periods - 1) (last_period serial first)) first.levels (first.periods - 1) (last_period serial first) (first.echelons - 1) x ≡ solved_values serial first.periods (last_period serial first) (first.echelons - 1) x
  value_solved first x are some begun within from to =
      let n = first.periods - 1 in
      let t = last_period serial first in
      let i = first.echelons - 1 in
      let periods : suc n ≡ first.periods = omega (arith, some) in
      sym (value_is serial readable first.later n t (omega (arith, are.within, some)) (are.later some) i first.levels x (omega (arith, begun, within)) (λ j le. are.levels j (omega (arith, le, begun))) from to)
      ∙ ap (λ (k : ℕ). solved_values serial k t i x) periods

  -- one more position
  pub position_solved : (first : FirstRows) (at value : ℤ) → AreSolved serial readable first → 1 ≤ first.periods → 1 ≤ first.echelons → at ≡ serial_low serial (last_period serial first) +ℤ pos first.cells
      → value ≡ solved_values serial first.periods (last_period serial first) (first.echelons - 1) at → AreSolved serial readable (named_rows first (Part at value))
  position_solved first at value are some begun here is = record {
    within = are.within;
    none = λ e. absurd (omega (arith, e, some));
    later = are.later;
    levels = are.levels;
    values = λ i place lt inside last. by_place i place lt inside last (cases_lt place first.cells) (cases_lt (suc i) first.echelons);
  }
    where
      t : ℕ
      t = last_period serial first

      low : ℤ
      low = serial_low serial t

      other : (i place : ℕ) → (i == (first.echelons - 1)) && is_number at (low +ℤ pos place) ≡ false → put_value first.values (first.echelons - 1) at value i (low +ℤ pos place) ≡ first.values i (low +ℤ pos place)
      other i place e = ap (λ b. cond b value (first.values i (low +ℤ pos place))) e

      by_place : (i place : ℕ) → i < first.echelons → place < row_width serial t → (suc i ≡ first.echelons → place < suc first.cells) → (place < first.cells) ⊎ (first.cells ≤ place) → (suc i < first.echelons) ⊎ (first.echelons ≤ suc i)
          → put_value first.values (first.echelons - 1) at value i (low +ℤ pos place) ≡ solved_values serial first.periods t i (low +ℤ pos place)
      by_place i place lt inside last where_is (inl lower) =
          other i place (ap (λ b. b && is_number at (low +ℤ pos place)) (ne_eqb i (first.echelons - 1) (λ same. absurd (omega (arith, same, lower))))) ∙ are.values i place lt inside (λ e. absurd (omega (arith, e, lower)))
      by_place i place lt inside last (inl before) (inr upper) =
          other i place (second_fails (i == (first.echelons - 1)) (is_number at (low +ℤ pos place)) (other_number at (low +ℤ pos place) (λ same. absurd (omega (arith, ints, same, here, before))))) ∙ are.values i place lt inside (λ e. before)
      by_place i place lt inside last (inr from) (inr upper) =
          let same : i ≡ first.echelons - 1 = omega (arith, lt, upper) in
          let next : place ≡ first.cells = omega (arith, from, last (omega (arith, lt, upper))) in
          let x : at ≡ low +ℤ pos place = here ∙ ap (λ (k : ℕ). low +ℤ pos k) (sym next) in
          ap (λ b. cond b value (first.values i (low +ℤ pos place))) (and_from (i == (first.echelons - 1)) (is_number at (low +ℤ pos place)) (eq-eqb i (first.echelons - 1) same) (number_at at (low +ℤ pos place) x))
          ∙ is ∙ ap (solved_values serial first.periods t (first.echelons - 1)) x ∙ ap (λ (j : ℕ). solved_values serial first.periods t j (low +ℤ pos place)) (sym same)
