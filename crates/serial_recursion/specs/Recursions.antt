-- What a recursion over the values of a serial system has gone through.
use Rattle.std.specs.Prelude.{◌≡◌, ℕ, suc, ◌<◌, ◌≤◌, ℤ, pos, ◌+ℤ◌, List}
use Rattle.decision_model.specs.declared.serial.Serial.{Serial}
use Rattle.decision_model.specs.Serial.{serial_low}
use Rattle.value_cert.specs.SerialRules.{FirstRows}
use Rattle.value_cert.specs.SerialValues.{row_width}
use Rattle.serial_recursion.specs.Periods.{HoldsPeriod, cell_at}
use Rattle.serial_recursion.specs.Rows.{period_of}
use Rattle.serial_recursion.specs.declared.recursion.Recursion.{Recursion}

-- ---- how far it is
-- the instance that it is of
abbrev pub serial_of : Recursion → Serial
serial_of recursion = recursion.serial.now

-- how many periods are begun
abbrev pub periods_of : Recursion → ℕ
periods_of recursion = recursion.periods

-- how many echelons of the last period are begun
abbrev pub echelons_of : Recursion → ℕ
echelons_of recursion = recursion.echelons

-- how many positions of the last echelon have a value
abbrev pub cells_of : Recursion → ℕ
cells_of recursion = recursion.cells

-- ---- what it has gone through
-- tables hold what these rows name
pub record KnowsTables (serial : Serial) (periods echelons cells : ℕ) (values costs : List ℤ) (level : ℕ) (first : FirstRows) : Type 0 where
  pub periods_are : periods ≡ first.periods
  pub echelons_are : echelons ≡ first.echelons
  pub cells_are : cells ≡ first.cells
  pub period : 1 ≤ periods → HoldsPeriod serial periods echelons values costs level first.later first.levels
  pub kept : (i place : ℕ) → i < echelons → place < row_width serial (period_of serial periods) → (suc i ≡ echelons → place < cells)
      → cell_at serial values i place ≡ first.values i (serial_low serial (period_of serial periods) +ℤ pos place)
  pub ends : periods ≡ 0 → (i : ℕ) (x : ℤ) → first.values i x ≡ pos 0

-- the recursion has gone through these rows
abbrev pub KnowsRows : Recursion → FirstRows → Type 0
KnowsRows recursion first = KnowsTables recursion.serial.now recursion.periods recursion.echelons recursion.cells recursion.values.now recursion.costs.now recursion.level first
