-- The first least of positions, and choices that order up to one position from the lowest positions and stay elsewhere.
use Rattle.std.specs.Prelude.{◌≡◌, ℕ, ℤ, pos, ◌+ℤ◌, ◌≤ℤ◌, ◌<ℤ◌}

-- the first of the positions from low to cap at which f is least
pub record IsFirstIn (f : ℤ → ℤ) (low cap at : ℤ) : Type 0 where
  pub from_low : low ≤ℤ at
  pub to_cap : at ≤ℤ cap
  pub least : (y : ℤ) → low ≤ℤ y → y ≤ℤ cap → f at ≤ℤ f y
  pub first : (y : ℤ) → low ≤ℤ y → y <ℤ at → f at <ℤ f y

-- the first positions from low up, as many as orders says, order up to high, which lies above them, and all others to cap stay
pub record IsOrderForm (to : ℤ → ℤ) (low cap high : ℤ) (orders : ℕ) : Type 0 where
  pub to_cap : high ≤ℤ cap
  pub below : (low +ℤ pos orders) ≤ℤ high
  pub moves : (x : ℤ) → low ≤ℤ x → x <ℤ (low +ℤ pos orders) → to x ≡ high
  pub stays : (x : ℤ) → (low +ℤ pos orders) ≤ℤ x → x ≤ℤ cap → to x ≡ x

-- some position up to which, and some number of positions from which
pub record HasOrderForm (to : ℤ → ℤ) (low cap : ℤ) : Type 0 where
  pub high : ℤ
  pub orders : ℕ
  pub form : IsOrderForm to low cap high orders
