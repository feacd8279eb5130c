-- The least value of the last so many of listed positions.
use Rattle.std.specs.Prelude.{◌≡◌, ℕ, ◌-◌, ◌*◌, ℤ, Bool, false, if◌then◌else◌, List, [], ◌++◌, length, drop, Option}
use Rattle.least_values.specs.Sweeps.{IsLeastOf}
use Rattle.least_values.specs.Rooms.{Holds, HoldsLeasts}
use Rattle.least_values.specs.declared.window.Window.{Window}

-- the cells that a window works in
abbrev pub room_of : Window → ℕ
room_of window = 2 * window.width

-- a room has seen these pairs: blocks of one width, and behind them one that is filled up to here, with its least pair
pub record HasSeen (width filled : ℕ) (whole : Bool) (best : Option (ℤ × ℤ)) (room : List ℤ) (pairs : List (ℤ × ℤ)) : Type 0 where
  pub older : List (ℤ × ℤ)
  pub block : List (ℤ × ℤ)
  pub current : List (ℤ × ℤ)
  pub are : pairs ≡ older ++ (block ++ current)
  pub is_room : length room ≡ 2 * width
  pub is_filled : filled ≡ length current
  pub is_whole : length block ≡ (if whole then width else 0)
  pub is_first : whole ≡ false → older ≡ []
  pub is_best : IsLeastOf current best
  pub holds : Holds room current
  pub leasts : HoldsLeasts room block filled

-- the window of this width has seen these pairs with its room
abbrev pub IsWindowOf : ℕ → Window → List ℤ → List (ℤ × ℤ) → Type 0
IsWindowOf width window room pairs = (window.width ≡ width) × HasSeen width window.filled window.whole window.best room pairs

-- the last so many elements, or all where there are fewer
abbrev pub last_of : {X : Type 0} → ℕ → List X → List X
last_of count xs = drop (length xs - count) xs
