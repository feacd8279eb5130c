-- What is known of a recursion where it may go on.
use Rattle.std.proofs.Common.{◌≡◌, ◌⊎◌, inl, inr, ℕ, zero, suc, ◌+◌, ◌-◌, ◌*◌, ◌^◌, ◌<◌, ◌≤◌, nat_lt, true, ◌&&◌, ◌||◌, not, eqb, ℤ, pos, ◌+ℤ◌, ◌-ℤ◌, ◌≤ℤ◌, List, length, refl, ◌∙◌, ap, arith}
use Rattle.std.specs.Prelude.{unsigned_abs, int_le}
use Rattle.std.proofs.lemmas.Bool.{and_parts, or_cases, ltb-true, leb-true, leb-false, eqb-true, not-true}
use Rattle.std.proofs.lemmas.Int.{ints}
use Rattle.decision_model.specs.PositionTests.{le_known}
use Rattle.decision_model.specs.Serial.{IsValidSerial, serial_low, serial_positions}
use Rattle.decision_model.specs.declared.serial.Serial.{Serial}
use Rattle.value_cert.specs.SerialRules.{FirstRows, last_period, is_on_grid, turns_at_level}
use Rattle.value_cert.specs.SerialValues.{order_cost, row_width, levels_for}
use Rattle.std.specs.List.{list_all, range_with_len}
use Rattle.newsvendor.specs.Least.{first_least_upto}
use Rattle.serial_recursion.specs.Periods.{AreTables, IsFresh, IsWritten, are_all, is_left, is_ready, is_whole}
use Rattle.serial_recursion.specs.Recursions.{KnowsTables}
use Rattle.serial_recursion.specs.Rows.{IsFrame, period_of, turns_from, value_at}
use Rattle.serial_recursion.specs.declared.frame.Frame.{Frame}
use Rattle.serial_recursion.proofs.Begun.{before_row, orders_are}
use Rattle.serial_recursion.proofs.Frames.{width_is, width_most, width_some}
use Rattle.serial_recursion.proofs.LevelPlaces.{level_is, turns_is}
use Rattle.serial_recursion.proofs.Rooms.{low_near, far_small}

-- a position without a value
pub left_parts : (serial : Serial) (p e cells : ℕ) → is_left serial p e cells ≡ true → (1 ≤ e) × (cells < row_width serial (period_of serial p))
left_parts serial p e cells left =
    let parts = and_parts (nat_lt 0 e) (not (are_all serial p cells)) left in
    (omega (arith, ltb-true 0 e parts.0), omega (arith, leb-false (row_width serial (period_of serial p)) cells (not-true (are_all serial p cells) parts.1)))

-- an echelon that may be begun
pub ready_parts : (serial : Serial) (p e cells : ℕ) → is_ready serial p e cells ≡ true → (1 ≤ p) × ((1 ≤ e → row_width serial (period_of serial p) ≤ cells) × (e < length serial.holding))
ready_parts serial p e cells ready =
    let outer = and_parts (nat_lt 0 p) ((eqb e 0 || are_all serial p cells) && nat_lt e (length serial.holding)) ready in
    let inner = and_parts (eqb e 0 || are_all serial p cells) (nat_lt e (length serial.holding)) outer.1 in (
      omega (arith, ltb-true 0 p outer.0),
      (λ one. by one (or_cases (eqb e 0) (are_all serial p cells) inner.0), omega (arith, ltb-true e (length serial.holding) inner.1)),
    )
  where
    by : 1 ≤ e → (eqb e 0 ≡ true) ⊎ (are_all serial p cells ≡ true) → row_width serial (period_of serial p) ≤ cells
    by one (inl none) = absurd (omega (arith, one, eqb-true e 0 none))
    by one (inr all) = omega (arith, leb-true (row_width serial (period_of serial p)) cells all)

-- a period that is whole
pub whole_parts : (serial : Serial) (p e cells : ℕ) → is_whole serial p e cells ≡ true → (p ≡ 0) ⊎ ((e ≡ length serial.holding) × (row_width serial (period_of serial p) ≤ cells))
whole_parts serial p e cells whole = by (or_cases (eqb p 0) (eqb e (length serial.holding) && are_all serial p cells) whole)
  where
    by : (eqb p 0 ≡ true) ⊎ (eqb e (length serial.holding) && are_all serial p cells ≡ true) → (p ≡ 0) ⊎ ((e ≡ length serial.holding) × (row_width serial (period_of serial p) ≤ cells))
    by (inl none) = inl (eqb-true p 0 none)
    by (inr all) =
        let parts = and_parts (eqb e (length serial.holding)) (are_all serial p cells) all in
        inr (eqb-true e (length serial.holding) parts.0, omega (arith, leb-true (row_width serial (period_of serial p)) cells parts.1))

-- where an echelon is begun a period is
pub some_period : (p e cells : ℕ) (values : List ℤ) → (p ≡ 0 → IsFresh e cells values) → 1 ≤ e → 1 ≤ p
some_period zero e cells values fresh one = absurd (omega (arith, one, (fresh refl).no_echelon))
some_period (suc p) e cells values fresh one = omega arith

-- the cell of the next position
pub cell_inside : (serial : Serial) (valid : IsValidSerial serial) (p e cells : ℕ) (values costs charges : List ℤ) → p ≤ serial.periods → AreTables serial values costs charges → 1 ≤ e → e ≤ length serial.holding → cells < row_width serial (period_of serial p) → (e - 1) * length costs + cells < length values
cell_inside serial valid p e cells values costs charges within tables one most small =
    let positions = serial_positions serial in
    let inside = before_row (e - 1) (length serial.holding) cells positions (omega (arith, one, most)) (omega (arith, small, width_most serial valid (period_of serial p) (omega arith))) in
    let same : (e - 1) * length costs ≡ (e - 1) * positions = ap (λ k. (e - 1) * k) tables.are_costs in
    omega (arith, inside, same, tables.are_values)

-- there are few cells
pub cells_few : (serial : Serial) (valid : IsValidSerial serial) (values costs charges : List ℤ) → AreTables serial values costs charges → length values ≤ 16000
cells_few serial valid values costs charges tables =
    let most = Rattle.std.proofs.lemmas.Nat.mul-le (length serial.holding) (serial_positions serial) 8 2000 valid.regular.readable.most_echelons valid.regular.grid.positions in
    omega (arith, most, tables.are_values)

-- a level on the grid
pub on_parts : (serial : Serial) (valid : IsValidSerial serial) (p : ℕ) (level : ℤ) → is_on_grid serial (period_of serial p) level ≡ true → (serial_low serial (period_of serial p) ≤ℤ level) × (level ≤ℤ serial.cap)
on_parts serial valid p level on =
    let parts = and_parts (int_le (serial_low serial (period_of serial p)) level) (int_le level serial.cap) on in
    (le_known (serial_low serial (period_of serial p)) level parts.0, le_known level serial.cap parts.1)

-- its place
pub level_inside : (serial : Serial) (valid : IsValidSerial serial) (p place : ℕ) (level : ℤ) → serial_low serial (period_of serial p) +ℤ pos place ≡ level → level ≤ℤ serial.cap → place < row_width serial (period_of serial p)
level_inside serial valid p place level at to = by (serial_low serial (period_of serial p)) (row_width serial (period_of serial p)) (width_is serial valid (period_of serial p)) at
  where
    by : (low : ℤ) (width : ℕ) → pos width ≡ serial.cap -ℤ low +ℤ pos 1 → low +ℤ pos place ≡ level → place < width
    by low width e at = omega (arith, ints, e, at, to)

module _ (serial : Serial) (valid : IsValidSerial serial) (p : ℕ) (some : 1 ≤ p) (within : p ≤ serial.periods) (frame : Frame) (is : IsFrame serial p frame) where
  -- the low end is near 0
  pub low_small : unsigned_abs frame.low ≤ 2 ^ 40
  low_small = omega (arith, low_near serial valid p some within frame is, far_small serial valid)

  module _ (e : ℕ) (lt : e < length serial.holding) (values costs : List ℤ) (level : ℕ) (new_values new_costs : List ℤ) (new_level cells : ℕ) (first : FirstRows)
      (written : IsWritten serial frame (period_of serial p) e values costs level new_values new_costs new_level) (knows : KnowsTables serial p e cells values costs level first) where
    same : (k : ℕ) → k < row_width serial (period_of serial p) → value_at new_costs k ≡ order_cost serial first.later (p - 1) (period_of serial p) e (serial_low serial (period_of serial p) +ℤ pos k)
    same k small = orders_are serial valid p some within frame is e lt values costs level new_values new_costs new_level written first.later first.levels (knows.period some) k small

    -- the first least place is the level's
    pub found_level : new_level ≡ first_least_upto (value_at new_costs) (frame.count - 1)
        → serial_low serial (period_of serial p) +ℤ pos new_level ≡ levels_for serial (order_cost serial first.later (first.periods - 1) (last_period serial first)) (last_period serial first) first.echelons
    found_level least =
        level_is (order_cost serial first.later (p - 1) (period_of serial p) e) (serial_low serial (period_of serial p)) serial.cap (row_width serial (period_of serial p)) new_level new_costs (width_is serial valid (period_of serial p)) (width_some serial valid (period_of serial p)) same
        (least ∙ ap (λ k. first_least_upto (value_at new_costs) (k - 1)) is.is_count)
        ∙ ap (λ q. levels_for serial (order_cost serial first.later (q - 1) (period_of serial q)) (period_of serial q) e) knows.periods_are
        ∙ ap (levels_for serial (order_cost serial first.later (first.periods - 1) (last_period serial first)) (last_period serial first)) knows.echelons_are

    -- the costs turn by place where they do by position
    pub found_turns : (S : ℤ) → serial_low serial (period_of serial p) +ℤ pos new_level ≡ S
        → list_all (turns_from (value_at new_costs) new_level) (range_with_len 0 (frame.count - 1)) ≡ turns_at_level serial (last_period serial first) (order_cost serial first.later (first.periods - 1) (last_period serial first) first.echelons) S
    found_turns S at =
        ap (λ k. list_all (turns_from (value_at new_costs) new_level) (range_with_len 0 (k - 1))) is.is_count
        ∙ turns_is (order_cost serial first.later (p - 1) (period_of serial p) e) (serial_low serial (period_of serial p)) S (row_width serial (period_of serial p)) new_level new_costs same at
        ∙ ap (λ q. turns_at_level serial (period_of serial q) (order_cost serial first.later (q - 1) (period_of serial q) e) S) knows.periods_are
        ∙ ap (λ i. turns_at_level serial (last_period serial first) (order_cost serial first.later (first.periods - 1) (last_period serial first) i) S) knows.echelons_are
