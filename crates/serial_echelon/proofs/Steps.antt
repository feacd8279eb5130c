-- How a recursion that has gone through rows with the solver's levels and values goes on.
use Rattle.std.proofs.Common.{◌≡◌, ℕ, zero, suc, ◌+◌, ◌-◌, ◌<◌, ◌≤◌, ◌==◌, Bool, true, false, ◌&&◌, ◌||◌, ◌⊎◌, inl, inr, ℤ, pos, ◌+ℤ◌, ◌-ℤ◌, ◌≤ℤ◌, length, refl, sym, ◌∙◌, ap, subst, arith}
use Rattle.std.specs.Prelude.{nat_le, nat_lt, not}
use Rattle.std.proofs.lemmas.Bool.{and_parts, and_from, eqb-true, leb-true, leb-false, le-leb, lt-ltb, ltb-true, not-true}
use Rattle.std.proofs.lemmas.Int.{ints}
use Rattle.decision_model.specs.Positions.{above_zero}
use Rattle.decision_model.specs.PositionTests.{above_zero_is}
use Rattle.decision_model.specs.Serial.{IsReadableSerial, serial_low}
use Rattle.decision_model.specs.declared.serial.Serial.{Serial}
use Rattle.serial_lemmas.specs.SolvedFronts.{AreSolved, none_solved, period_solved, level_solved, echelon_solved, value_solved, position_solved}
use Rattle.serial_lemmas.specs.SolvedKept.{grid_some}
use Rattle.serial_recursion.specs.Periods.{are_all, is_left, is_ready, is_whole, next_at}
use Rattle.serial_recursion.specs.Recursions.{serial_of, periods_of, echelons_of, cells_of, KnowsRows}
use Rattle.serial_recursion.specs.Rows.{period_of}
use Rattle.serial_recursion.specs.declared.recursion.Recursion.{Recursion}
use Rattle.value_cert.specs.SerialRules.{FirstRows, no_rows, named_rows, last_period}
use Rattle.value_cert.specs.SerialValues.{order_cost, echelon_value, levels_for, row_width, solved_level, solved_values}
use Rattle.value_cert.specs.declared.line.CertLine.TheVariants.{Period, Echelon, Part}
use Rattle.serial_echelon.specs.Solving.{HasSolved, cell_at}

-- ---- tests
-- an echelon that may be begun
pub record IsReady (serial : Serial) (periods echelons cells : ℕ) : Type 0 where
  pub begun : 1 ≤ periods
  pub inside : echelons < length serial.holding
  pub whole : 1 ≤ echelons → row_width serial (period_of serial periods) ≤ cells

one_of : (a b : Bool) → (a || b) ≡ true → (a ≡ true) ⊎ (b ≡ true)
one_of true b h = inl refl
one_of false b h = inr h

pub ready_is : (serial : Serial) (periods echelons cells : ℕ) → is_ready serial periods echelons cells ≡ true → IsReady serial periods echelons cells
ready_is serial periods echelons cells test =
    let parts = and_parts (nat_lt 0 periods) (((echelons == 0) || are_all serial periods cells) && nat_lt echelons (length serial.holding)) test in
    let behind = and_parts ((echelons == 0) || are_all serial periods cells) (nat_lt echelons (length serial.holding)) parts.1 in
    record {
      begun = ltb-true 0 periods parts.0;
      inside = ltb-true echelons (length serial.holding) behind.1;
      whole = λ some. by some (one_of (echelons == 0) (are_all serial periods cells) behind.0);
    }
  where
    by : 1 ≤ echelons → ((echelons == 0) ≡ true) ⊎ (are_all serial periods cells ≡ true) → row_width serial (period_of serial periods) ≤ cells
    by some (inl none) = absurd (omega (arith, some, eqb-true echelons 0 none))
    by some (inr all) = leb-true (row_width serial (period_of serial periods)) cells all

pub is_ready_from : (serial : Serial) (periods echelons cells : ℕ) → IsReady serial periods echelons cells → is_ready serial periods echelons cells ≡ true
is_ready_from serial periods echelons cells is =
    and_from (nat_lt 0 periods) (((echelons == 0) || are_all serial periods cells) && nat_lt echelons (length serial.holding))
    (lt-ltb 0 periods is.begun)
    (and_from ((echelons == 0) || are_all serial periods cells) (nat_lt echelons (length serial.holding)) (by (echelons == 0) refl) (lt-ltb echelons (length serial.holding) is.inside))
  where
    some : (echelons == 0) ≡ false → 1 ≤ echelons
    some e = elim echelons as (λ k. (k == 0) ≡ false → 1 ≤ k) [ zero ↦ λ f. cc | suc k ↦ λ f. omega arith ] e

    by : (b : Bool) → (echelons == 0) ≡ b → (b || are_all serial periods cells) ≡ true
    by true e = refl
    by false e = le-leb (row_width serial (period_of serial periods)) cells (is.whole (some e))

-- a whole period
pub whole_is : (serial : Serial) (periods echelons cells : ℕ) → is_whole serial periods echelons cells ≡ true → 1 ≤ periods → (echelons ≡ length serial.holding) × (row_width serial (period_of serial periods) ≤ cells)
whole_is serial periods echelons cells test some = by (one_of (periods == 0) ((echelons == length serial.holding) && are_all serial periods cells) test)
  where
    by : ((periods == 0) ≡ true) ⊎ (((echelons == length serial.holding) && are_all serial periods cells) ≡ true) → (echelons ≡ length serial.holding) × (row_width serial (period_of serial periods) ≤ cells)
    by (inl none) = absurd (omega (arith, some, eqb-true periods 0 none))
    by (inr all) =
        let parts = and_parts (echelons == length serial.holding) (are_all serial periods cells) all in
        (eqb-true echelons (length serial.holding) parts.0, leb-true (row_width serial (period_of serial periods)) cells parts.1)

-- a position that has no value yet
pub left_is : (serial : Serial) (periods echelons cells : ℕ) → is_left serial periods echelons cells ≡ true → (1 ≤ echelons) × (cells < row_width serial (period_of serial periods))
left_is serial periods echelons cells test =
    let parts = and_parts (nat_lt 0 echelons) (not (are_all serial periods cells)) test in
    (ltb-true 0 echelons parts.0, leb-false (row_width serial (period_of serial periods)) cells (not-true (are_all serial periods cells) parts.1))

-- ---- rows of the same instance
pub has_solved : (serial : Serial) (recursion : Recursion) → serial_of recursion ≡ serial → (readable : IsReadableSerial serial) (first : FirstRows) → AreSolved serial readable first → KnowsRows recursion first → HasSolved recursion
has_solved serial recursion same readable first are knows =
    subst (λ (s : Serial). (readable : IsReadableSerial s) → AreSolved s readable first → HasSolved recursion) same
    (λ readable are. record { readable = readable; first = first; are = are; knows = knows }) readable are

module _ (recursion : Recursion) (has : HasSolved recursion) where
  abbrev serial : Serial
  serial = serial_of recursion

  abbrev first : FirstRows
  first = has.first

  -- ---- a position
  module _ (some : 1 ≤ periods_of recursion) (within : echelons_of recursion ≤ length serial.holding) (left : is_left serial (periods_of recursion) (echelons_of recursion) (cells_of recursion) ≡ true) where
    -- the next position
    abbrev pub next : ℤ
    next = next_at serial first.periods first.cells

    -- its value by the levels
    abbrev pub own : ℤ
    own = echelon_value serial (order_cost serial first.later (first.periods - 1) (last_period serial first)) first.levels (first.periods - 1) (last_period serial first) (first.echelons - 1) next

    from : (low : ℤ) → low ≤ℤ (low +ℤ pos first.cells)
    from low = omega (arith, ints)

    below : (low : ℤ) → low ≤ℤ serial.cap → first.cells < above_zero (serial.cap -ℤ low +ℤ pos 1) → (low +ℤ pos first.cells) ≤ℤ serial.cap
    below low le inside = omega (arith, ints, inside, above_zero_is (serial.cap -ℤ low +ℤ pos 1) (omega (arith, ints, le)))

    tests : (1 ≤ echelons_of recursion) × (cells_of recursion < row_width serial (period_of serial (periods_of recursion)))
    tests = left_is serial (periods_of recursion) (echelons_of recursion) (cells_of recursion) left

    inside : first.cells < row_width serial (last_period serial first)
    inside = omega (arith, tests.1, has.knows.cells_are, ap (λ (k : ℕ). row_width serial (period_of serial k)) has.knows.periods_are)

    begun : 1 ≤ first.echelons
    begun = omega (arith, tests.0, has.knows.echelons_are)

    -- its value is the solver's
    pub value_at_next : own ≡ solved_values serial first.periods (last_period serial first) (first.echelons - 1) next
    value_at_next =
        value_solved serial has.readable first next has.are (omega (arith, some, has.knows.periods_are)) begun (omega (arith, within, has.knows.echelons_are))
        (from (serial_low serial (last_period serial first))) (below (serial_low serial (last_period serial first)) (grid_some serial has.readable (last_period serial first)) inside)

    -- as the recursion counts
    pub value_counted : solved_values serial first.periods (last_period serial first) (first.echelons - 1) next ≡ (cell_at serial (periods_of recursion) (echelons_of recursion) (cells_of recursion)).value
    value_counted =
        let at : ℕ → ℕ → ℕ → ℕ → ℤ = λ n p e k. solved_values serial n (period_of serial p) (e - 1) (serial_low serial (period_of serial p) +ℤ pos k) in
        let count : first.periods ≡ suc (periods_of recursion - 1) = omega (arith, some, has.knows.periods_are) in
        ap (λ (n : ℕ). at n first.periods first.echelons first.cells) count
        ∙ ap (λ (p : ℕ). at (suc (periods_of recursion - 1)) p first.echelons first.cells) (sym has.knows.periods_are)
        ∙ ap (λ (e : ℕ). at (suc (periods_of recursion - 1)) (periods_of recursion) e first.cells) (sym has.knows.echelons_are)
        ∙ ap (λ (k : ℕ). at (suc (periods_of recursion - 1)) (periods_of recursion) (echelons_of recursion) k) (sym has.knows.cells_are)

    -- one position more
    pub position_kept : (new : Recursion) → serial_of new ≡ serial_of recursion
        → KnowsRows new (named_rows first (Part next own))
        → HasSolved new
    position_kept new same knows =
        has_solved serial new same has.readable _
        (position_solved serial has.readable first next _ has.are (omega (arith, some, has.knows.periods_are)) begun refl value_at_next) knows

  -- ---- an echelon
  -- its rows are as far as the recursion is
  ready_rows : IsReady serial (periods_of recursion) (echelons_of recursion) (cells_of recursion) → IsReady serial first.periods first.echelons first.cells
  ready_rows is =
      let P : ℕ → ℕ → ℕ → Type 0 = λ p e k. IsReady serial p e k in
      subst (λ (k : ℕ). IsReady serial first.periods first.echelons k) has.knows.cells_are
      (subst (λ (e : ℕ). IsReady serial first.periods e (cells_of recursion)) has.knows.echelons_are
      (subst (λ (p : ℕ). IsReady serial p (echelons_of recursion) (cells_of recursion)) has.knows.periods_are is))

  -- the level with least cost is the solver's
  pub level_is_solved : is_ready serial (periods_of recursion) (echelons_of recursion) (cells_of recursion) ≡ true
      → levels_for serial (order_cost serial first.later (first.periods - 1) (last_period serial first)) (last_period serial first) first.echelons ≡ solved_level serial (first.periods - 1) (last_period serial first) first.echelons
  level_is_solved ready =
      let is = ready_rows (ready_is serial (periods_of recursion) (echelons_of recursion) (cells_of recursion) ready) in
      level_solved serial has.readable first has.are is.begun is.inside

  -- as the recursion counts
  pub level_counted : solved_level serial (first.periods - 1) (last_period serial first) first.echelons ≡ solved_level serial (periods_of recursion - 1) (period_of serial (periods_of recursion)) (echelons_of recursion)
  level_counted =
      ap (λ (p : ℕ). solved_level serial (p - 1) (period_of serial p) first.echelons) (sym has.knows.periods_are)
      ∙ ap (λ (e : ℕ). solved_level serial (periods_of recursion - 1) (period_of serial (periods_of recursion)) e) (sym has.knows.echelons_are)

  -- one echelon more
  pub echelon_kept : (new : Recursion) (level : ℤ) → is_ready serial (periods_of recursion) (echelons_of recursion) (cells_of recursion) ≡ true → serial_of new ≡ serial_of recursion
      → level ≡ levels_for serial (order_cost serial first.later (first.periods - 1) (last_period serial first)) (last_period serial first) first.echelons
      → KnowsRows new (named_rows first (Echelon (pos 0) level)) → HasSolved new
  echelon_kept new level ready same is knows =
      let rows = ready_rows (ready_is serial (periods_of recursion) (echelons_of recursion) (cells_of recursion) ready) in
      has_solved serial new same has.readable _
      (echelon_solved serial has.readable first (pos 0) level has.are rows.whole (is ∙ level_is_solved ready)) knows

  -- ---- a period
  -- one more
  pub period_kept : (new : Recursion) → is_whole serial (periods_of recursion) (echelons_of recursion) (cells_of recursion) ≡ true → periods_of recursion < serial.periods → serial_of new ≡ serial_of recursion
      → KnowsRows new (named_rows first (Period (pos 0))) → HasSolved new
  period_kept new whole left same knows =
      has_solved serial new same has.readable _
      (period_solved serial has.readable first (pos 0) has.are (omega (arith, left, has.knows.periods_are)) all) knows
    where
      all : 1 ≤ first.periods → (first.echelons ≡ length serial.holding) × (row_width serial (last_period serial first) ≤ first.cells)
      all some =
          let is = whole_is serial (periods_of recursion) (echelons_of recursion) (cells_of recursion) whole (omega (arith, some, has.knows.periods_are)) in
          (sym has.knows.echelons_are ∙ is.0, omega (arith, is.1, has.knows.cells_are, ap (λ (k : ℕ). row_width serial (period_of serial k)) has.knows.periods_are))

-- ---- no period yet
pub begins_solved : (serial : Serial) (recursion : Recursion) → serial_of recursion ≡ serial → IsReadableSerial serial → KnowsRows recursion no_rows → HasSolved recursion
begins_solved serial recursion same readable knows = has_solved serial recursion same readable no_rows (none_solved serial readable) knows
