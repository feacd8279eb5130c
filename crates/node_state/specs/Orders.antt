-- Order rules, as functions of the position.
use Rattle.std.specs.Prelude.{ℕ, ◌+◌, ◌*◌, ◌/◌, ℤ, ◌-ℤ◌, int_le, cond, Option, Some, None}
use Rattle.network_model.specs.declared.network.Rule.{Rule}
use Rattle.network_model.specs.declared.network.Rule.TheVariants.{Base, MinMax, Lot, Echelon, House}
use Rattle.model_terms.specs.Positions.{above_zero}

-- up to the level
abbrev pub base_order : ℤ → ℤ → ℕ
base_order level p = above_zero (level -ℤ p)

-- up to the high level, at a position of at most the low one
abbrev pub min_max_order : ℤ → ℤ → ℤ → ℕ
min_max_order low high p = cond (int_le p low) (base_order high p) 0

-- the fewest lots that bring a position of at most the reorder point above it
abbrev pub lot_order : ℤ → ℕ → ℤ → ℕ
lot_order reorder lot p = cond (int_le p reorder) (lot * (base_order reorder p / lot + 1)) 0

-- what a rule orders at a position; a rule of the caller's own orders nothing here
abbrev pub order_of : Rule → ℤ → ℕ
order_of (Base level) p = base_order level p
order_of (MinMax low high) p = min_max_order low high p
order_of (Lot reorder lot) p = lot_order reorder lot p
order_of (Echelon level) p = base_order level p
order_of (House index cap) p = 0

-- the index of a rule of the caller's own
abbrev pub house_of : Rule → Option ℕ
house_of (Base level) = None
house_of (MinMax low high) = None
house_of (Lot reorder lot) = None
house_of (Echelon level) = None
house_of (House index cap) = Some index
