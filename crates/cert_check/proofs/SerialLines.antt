-- The rules on the periods, echelons and positions of a serial system's certificate, case by case.
use Rattle.std.proofs.Common.{◌≡◌, ◌≢◌, ℕ, suc, ◌-◌, ◌==◌, Bool, true, false, cond, length, ℤ, pos, refl, sym, ap, ◌∙◌}
use Rattle.std.specs.Prelude.{Option, None, Some, nat_lt, not, ◌&&◌, ◌||◌}
use Rattle.decision_model.specs.declared.serial.Serial.{Serial}
use Rattle.serial_recursion.specs.Periods.{is_ready, is_left, next_at}
use Rattle.value_cert.specs.Numbers.{is_number}
use Rattle.value_cert.specs.RuleTests.{number_at, number_other}
use Rattle.value_cert.specs.SerialRules.{FirstRows, is_period_whole, is_row_whole, is_next_period, is_next_echelon, is_next_position, is_on_grid, turns_at_level, last_period, level_rule, value_rule, echelon_rule, position_rule}
use Rattle.value_cert.specs.SerialValues.{order_cost, echelon_value}

-- ---- tests of several parts
last_fails : (a b c : Bool) → c ≡ false → (a && b && c) ≡ false
last_fails true true c e = e
last_fails true false c e = refl
last_fails false b c e = refl

first_apart : (a b c : Bool) → ((a && b) && c) ≡ (a && (b && c))
first_apart true b c = refl
first_apart false b c = refl

-- ---- periods
-- another period than the next one
pub other_period : (serial : Serial) (first : FirstRows) (period : ℤ) → period ≢ pos (serial.periods - first.periods) → is_next_period serial first period ≡ false
other_period serial first period differ =
    last_fails (is_period_whole serial first) (nat_lt first.periods serial.periods) _ (number_other (pos (serial.periods - first.periods)) period (λ same. differ (sym same)))

-- ---- echelons
-- the next echelon is one that may be begun, by its number
next_echelon : (serial : Serial) (first : FirstRows) (echelon : ℤ) → is_next_echelon serial first echelon ≡ (is_ready serial first.periods first.echelons first.cells && is_number (pos (suc first.echelons)) echelon)
next_echelon serial first echelon =
    ap (λ b. b && is_number (pos (suc first.echelons)) echelon)
    (first_apart (nat_lt 0 first.periods) ((first.echelons == 0) || is_row_whole serial first) (nat_lt first.echelons (length serial.holding)))

-- the rule on the level of the next echelon
abbrev pub next_level_rule : Serial → FirstRows → ℤ → Option ℕ
next_level_rule serial first level = level_rule serial first.later (first.periods - 1) (last_period serial first) first.echelons level

module _ (serial : Serial) (first : FirstRows) (echelon level : ℤ) where
  by_test : (b : Bool) → is_next_echelon serial first echelon ≡ b → echelon_rule serial first echelon level ≡ cond {A = Option ℕ} b (next_level_rule serial first level) (Some 2)
  by_test b e = ap (λ b. cond {A = Option ℕ} b (next_level_rule serial first level) (Some 2)) e

  -- none may be begun
  pub no_echelon : is_ready serial first.periods first.echelons first.cells ≡ false → echelon_rule serial first echelon level ≡ Some 2
  no_echelon barred = by_test false (next_echelon serial first echelon ∙ ap (λ b. b && is_number (pos (suc first.echelons)) echelon) barred)

  -- another one than the next one
  pub other_echelon : is_ready serial first.periods first.echelons first.cells ≡ true → echelon ≢ pos (suc first.echelons) → echelon_rule serial first echelon level ≡ Some 2
  other_echelon ready differ =
      by_test false (next_echelon serial first echelon ∙ ap (λ b. b && is_number (pos (suc first.echelons)) echelon) ready ∙ number_other (pos (suc first.echelons)) echelon (λ same. differ (sym same)))

  -- the next one
  pub own_echelon : is_ready serial first.periods first.echelons first.cells ≡ true → echelon ≡ pos (suc first.echelons) → echelon_rule serial first echelon level ≡ next_level_rule serial first level
  own_echelon ready same =
      by_test true (next_echelon serial first echelon ∙ ap (λ b. b && is_number (pos (suc first.echelons)) echelon) ready ∙ number_at (pos (suc first.echelons)) echelon (sym same))

-- ---- levels
-- whether the costs of orders of the next echelon turn at a level
abbrev pub turns_next : Serial → FirstRows → ℤ → Bool
turns_next serial first level =
    turns_at_level serial (last_period serial first) (order_cost serial first.later (first.periods - 1) (last_period serial first) first.echelons) level

module _ (serial : Serial) (first : FirstRows) (level : ℤ) where
  by_tests : (on turns : Bool) → is_on_grid serial (last_period serial first) level ≡ on → turns_next serial first level ≡ turns
      → next_level_rule serial first level ≡ cond {A = Option ℕ} on (cond turns None (Some 4)) (Some 3)
  by_tests on turns p q =
      ap (λ b. cond {A = Option ℕ} b (cond (turns_next serial first level) None (Some 4)) (Some 3)) p
      ∙ ap (λ b. cond {A = Option ℕ} on (cond b None (Some 4)) (Some 3)) q

  pub off_grid : is_on_grid serial (last_period serial first) level ≡ false → next_level_rule serial first level ≡ Some 3
  off_grid off = by_tests false (turns_next serial first level) off refl

  pub no_turn : is_on_grid serial (last_period serial first) level ≡ true → turns_next serial first level ≡ false → next_level_rule serial first level ≡ Some 4
  no_turn on turns = by_tests true false on turns

  pub own_level : is_on_grid serial (last_period serial first) level ≡ true → turns_next serial first level ≡ true → next_level_rule serial first level ≡ None
  own_level on turns = by_tests true true on turns

-- ---- positions
-- the next position is one that is left, by its number
next_part : (serial : Serial) (first : FirstRows) (x : ℤ) → is_next_position serial first x ≡ (is_left serial first.periods first.echelons first.cells && is_number (next_at serial first.periods first.cells) x)
next_part serial first x = refl

-- the value of the next position
abbrev pub next_value : Serial → FirstRows → ℤ → ℤ
next_value serial first x =
    echelon_value serial (order_cost serial first.later (first.periods - 1) (last_period serial first)) first.levels (first.periods - 1) (last_period serial first) (first.echelons - 1) x

module _ (serial : Serial) (first : FirstRows) (x value : ℤ) where
  here_rule : Option ℕ
  here_rule = value_rule serial first.later first.levels (first.periods - 1) (last_period serial first) (first.echelons - 1) x value

  by_next : (b : Bool) → is_next_position serial first x ≡ b → position_rule serial first x value ≡ cond {A = Option ℕ} b here_rule (Some 2)
  unfolding here_rule
  by_next b e = ap (λ b. cond {A = Option ℕ} b here_rule (Some 2)) e

  -- none is left
  pub no_position : is_left serial first.periods first.echelons first.cells ≡ false → position_rule serial first x value ≡ Some 2
  no_position none = by_next false (next_part serial first x ∙ ap (λ b. b && is_number (next_at serial first.periods first.cells) x) none)

  -- another one than the next one
  pub other_position : is_left serial first.periods first.echelons first.cells ≡ true → x ≢ next_at serial first.periods first.cells → position_rule serial first x value ≡ Some 2
  other_position left differ =
      by_next false (next_part serial first x ∙ ap (λ b. b && is_number (next_at serial first.periods first.cells) x) left ∙ number_other (next_at serial first.periods first.cells) x (λ same. differ (sym same)))

  here : is_left serial first.periods first.echelons first.cells ≡ true → x ≡ next_at serial first.periods first.cells → position_rule serial first x value ≡ here_rule
  here left same =
      by_next true (next_part serial first x ∙ ap (λ b. b && is_number (next_at serial first.periods first.cells) x) left ∙ number_at (next_at serial first.periods first.cells) x (sym same))

  -- another value than its own
  pub other_value : is_left serial first.periods first.echelons first.cells ≡ true → x ≡ next_at serial first.periods first.cells → value ≢ next_value serial first x → position_rule serial first x value ≡ Some 5
  unfolding here_rule
  other_value left same differ =
      here left same ∙ ap (λ b. cond {A = Option ℕ} b None (Some 5)) (number_other (next_value serial first x) value (λ e. differ (sym e)))

  -- its own
  pub own_value : is_left serial first.periods first.echelons first.cells ≡ true → x ≡ next_at serial first.periods first.cells → value ≡ next_value serial first x → position_rule serial first x value ≡ None
  unfolding here_rule
  own_value left same e = here left same ∙ ap (λ b. cond {A = Option ℕ} b None (Some 5)) (number_at (next_value serial first x) value (sym e))
