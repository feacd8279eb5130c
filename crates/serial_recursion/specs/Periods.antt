-- What the tables of a recursion over the values of a serial system hold.
use Rattle.std.specs.Prelude.{◌≡◌, ℕ, suc, ◌+◌, ◌-◌, ◌*◌, ◌<◌, ◌≤◌, nat_le, nat_lt, ◌==◌, ◌&&◌, ◌||◌, not, Bool, ℤ, pos, ◌+ℤ◌, List, length}
use Rattle.decision_model.specs.declared.serial.Serial.{Serial}
use Rattle.decision_model.specs.Serial.{serial_low, serial_positions}
use Rattle.decision_model.specs.SerialProblem.{law_of_period, unit_of}
use Rattle.value_cert.specs.SerialValues.{order_cost, echelon_value, row_width}
use Rattle.serial_lemmas.specs.BoundedValues.{AreBounded}
use Rattle.serial_lemmas.specs.Levels.{IsLevelAt}
use Rattle.serial_recursion.specs.Rows.{value_at, row_at, period_of, rates_for, place_cost, charge_of, place_value}
use Rattle.serial_recursion.specs.declared.frame.Frame.{Frame}

-- the cell of an echelon at a place
abbrev pub cell_at : Serial → List ℤ → ℕ → ℕ → ℤ
cell_at serial values i = row_at values (i * serial_positions serial)

-- tables hold a period of which some echelons are begun, with the values F of the next period and the levels L: the values
-- of these echelons, those of the next period for the others, and the costs of orders of the last echelon
pub record HoldsPeriod (serial : Serial) (periods echelons : ℕ) (values costs : List ℤ) (level : ℕ) (F : ℕ → ℤ → ℤ) (L : ℕ → ℤ) : Type 0 where
  pub later : (i place : ℕ) → echelons ≤ i → i < length serial.holding → place < row_width serial (suc (period_of serial periods))
      → cell_at serial values i place ≡ F i (serial_low serial (suc (period_of serial periods)) +ℤ pos place)
  pub done : (i place : ℕ) → i < echelons → place < row_width serial (period_of serial periods)
      → cell_at serial values i place ≡ echelon_value serial (order_cost serial F (periods - 1) (period_of serial periods)) L (periods - 1) (period_of serial periods) i (serial_low serial (period_of serial periods) +ℤ pos place)
  pub orders : (place : ℕ) → 1 ≤ echelons → place < row_width serial (period_of serial periods)
      → value_at costs place ≡ order_cost serial F (periods - 1) (period_of serial periods) (echelons - 1) (serial_low serial (period_of serial periods) +ℤ pos place)
  pub at_level : 1 ≤ echelons → serial_low serial (period_of serial periods) +ℤ pos level ≡ L (echelons - 1)

-- the same with values and levels that are in range
pub record IsBounded (serial : Serial) (periods echelons : ℕ) (values costs : List ℤ) (level : ℕ) : Type 0 where
  pub F : ℕ → ℤ → ℤ
  pub L : ℕ → ℤ
  pub bounded : AreBounded serial (periods - 1) (suc (period_of serial periods)) F
  pub on_grid : (i : ℕ) → i < length serial.holding → IsLevelAt (serial_low serial (period_of serial periods)) serial.cap (L i)
  pub holds : HoldsPeriod serial periods echelons values costs level F L

-- what is written of an echelon of a period when it is begun: its costs of orders and its values, in its row alone
pub record IsWritten (serial : Serial) (frame : Frame) (period e : ℕ) (values costs : List ℤ) (level : ℕ) (new_values new_costs : List ℤ) (new_level : ℕ) : Type 0 where
  pub old_level : 1 ≤ e → level < frame.count
  pub is_level : new_level < frame.count
  pub ordered : (k : ℕ) → k < frame.count → value_at new_costs k ≡ place_cost frame (law_of_period serial period) (unit_of serial e) (row_at values (e * serial_positions serial)) k
  pub stored : (k : ℕ) → k < frame.count → row_at new_values (e * serial_positions serial) k ≡ place_value frame (rates_for serial e) (law_of_period serial period) new_costs new_level (charge_of e costs level k) k
  pub below : (k : ℕ) → k < e * serial_positions serial → value_at new_values k ≡ value_at values k
  pub above : (k : ℕ) → e * serial_positions serial + frame.count ≤ k → value_at new_values k ≡ value_at values k

-- how many cells the tables have
pub record AreTables (serial : Serial) (values costs charges : List ℤ) : Type 0 where
  pub are_values : length values ≡ length serial.holding * serial_positions serial
  pub are_costs : length costs ≡ serial_positions serial
  pub are_charges : length charges ≡ serial_positions serial

-- nothing is begun, and all values are 0
pub record IsFresh (echelons cells : ℕ) (values : List ℤ) : Type 0 where
  pub no_echelon : echelons ≡ 0
  pub no_cell : cells ≡ 0
  pub zeros : (place : ℕ) → place < length values → value_at values place ≡ pos 0

-- ---- how far a recursion is
-- these are the positions of the last period's grid
abbrev pub are_all : Serial → ℕ → ℕ → Bool
are_all serial periods cells = nat_le (row_width serial (period_of serial periods)) cells

-- the last period has all echelons with all positions, or there is none
abbrev pub is_whole : Serial → ℕ → ℕ → ℕ → Bool
is_whole serial periods echelons cells = (periods == 0) || ((echelons == length serial.holding) && are_all serial periods cells)

-- an echelon may be begun: a period is, all positions of the echelon before have a value, and it isn't the last one
abbrev pub is_ready : Serial → ℕ → ℕ → ℕ → Bool
is_ready serial periods echelons cells =
    nat_lt 0 periods && (((echelons == 0) || are_all serial periods cells) && nat_lt echelons (length serial.holding))

-- an echelon is begun, and has a position without a value
abbrev pub is_left : Serial → ℕ → ℕ → ℕ → Bool
is_left serial periods echelons cells = nat_lt 0 echelons && not (are_all serial periods cells)

-- the next position of the last echelon
abbrev pub next_at : Serial → ℕ → ℕ → ℤ
next_at serial periods cells = serial_low serial (period_of serial periods) +ℤ pos cells
