-- What the rules say of levels, as functions of positions, and what the solver's levels are.
use Rattle.std.specs.Prelude.{◌≡◌, ℕ, suc, ◌+◌, ◌-◌, ◌*◌, ◌^◌, ◌<◌, ◌≤◌, ℤ, pos, ◌+ℤ◌, ◌≤ℤ◌, ◌<ℤ◌, List, length}
use Rattle.decision_model.specs.declared.serial.Serial.{Serial}
use Rattle.decision_model.specs.Serial.{serial_low, serial_cost_bound}
use Rattle.decision_model.specs.SerialProblem.{over_echelons}
use Rattle.value_cert.specs.SerialValues.{order_cost, echelon_value, order_costs, values}

-- a level from low to cap, below which a cost doesn't rise and above which it doesn't fall
pub record IsTurn (C : ℤ → ℤ) (S low cap : ℤ) : Type 0 where
  pub from_low : low ≤ℤ S
  pub to_cap : S ≤ℤ cap
  pub falls : (y : ℤ) → low ≤ℤ y → y <ℤ S → C (y +ℤ pos 1) ≤ℤ C y
  pub rises : (y : ℤ) → S ≤ℤ y → y <ℤ cap → C y ≤ℤ C (y +ℤ pos 1)

-- the costs of orders turn at each level of each period
abbrev pub AreTurns : Serial → (ℕ → ℕ → ℤ) → Type 0
AreTurns serial S =
    (n t i : ℕ) → 1 ≤ t → t + n ≡ serial.periods → i < length serial.holding → IsTurn (order_costs serial S n t i) (S t i) (serial_low serial t) serial.cap

-- the sum of the echelons' values of stocks, in period t from 1
abbrev pub total_value : Serial → (ℕ → ℕ → ℤ) → ℕ → List ℤ → ℤ
total_value serial S t xs = over_echelons (values serial S (suc serial.periods - t) t) 0 xs

-- levels, and values of positions that are those of the levels on each grid, and 0 after the last period
pub record IsCertificate (serial : Serial) (S : ℕ → ℕ → ℤ) (F : ℕ → ℕ → ℤ → ℤ) : Type 0 where
  pub last : (i : ℕ) (x : ℤ) → F 0 i x ≡ pos 0
  pub levels : (n t i : ℕ) → 1 ≤ t → t + n ≡ serial.periods → i < length serial.holding → IsTurn (order_cost serial (F n) n t i) (S t i) (serial_low serial t) serial.cap
  pub exact : (n t i : ℕ) (x : ℤ) → 1 ≤ t → t + n ≡ serial.periods → i < length serial.holding → serial_low serial t ≤ℤ x → x ≤ℤ serial.cap → F (suc n) i x ≡ echelon_value serial (order_cost serial (F n) n t) (S t) n t i x

-- ---- convexity
-- between low and cap a function's steps never fall
abbrev pub IsConvexOn : ℤ → ℤ → (ℤ → ℤ) → Type 0
IsConvexOn low cap f =
    (x : ℤ) → low ≤ℤ x → (x +ℤ pos 2) ≤ℤ cap → (f (x +ℤ pos 1) +ℤ f (x +ℤ pos 1)) ≤ℤ (f x +ℤ f (x +ℤ pos 2))

-- the least position from low to cap at which a function is least
pub record IsLeastPosition (f : ℤ → ℤ) (level low cap : ℤ) : Type 0 where
  pub from_low : low ≤ℤ level
  pub to_cap : level ≤ℤ cap
  pub least : (y : ℤ) → low ≤ℤ y → y ≤ℤ cap → f level ≤ℤ f y
  pub first : (y : ℤ) → low ≤ℤ y → y <ℤ level → f level <ℤ f y

-- levels at which the costs of orders are least
abbrev pub AreLeastLevels : Serial → (ℕ → ℕ → ℤ) → Type 0
AreLeastLevels serial S =
    (n t i : ℕ) → 1 ≤ t → t + n ≡ serial.periods → i < length serial.holding → IsLeastPosition (order_costs serial S n t i) (S t i) (serial_low serial t) serial.cap

-- ---- sizes
-- a whole number above the value of echelon i, from 0, where n periods are left, in costs of one period
unfoldable pub size_bound : Serial → ℕ → ℕ → ℕ
size_bound serial n i = 2 ^ i * n ^ suc i * serial_cost_bound serial

-- each level of each period lies on that period's grid
pub record IsLevelAt (low cap level : ℤ) : Type 0 where
  pub from_low : low ≤ℤ level
  pub to_cap : level ≤ℤ cap

-- levels that lie on the grids
abbrev pub AreOnGrid : Serial → (ℕ → ℕ → ℤ) → Type 0
AreOnGrid serial S =
    (n t i : ℕ) → 1 ≤ t → t + n ≡ serial.periods → i < length serial.holding → IsLevelAt (serial_low serial t) serial.cap (S t i)
