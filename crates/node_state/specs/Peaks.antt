-- No order takes the position above the peak of its rule.
use Rattle.std.proofs.Common.{◌≡◌, ℕ, ◌+◌, ◌*◌, ◌/◌, ◌<◌, ◌≤◌, ◌^◌, ℤ, pos, negsuc, ◌+ℤ◌, ◌-ℤ◌, ◌≤ℤ◌, Bool, true, false, cond, arith, refl}
use Rattle.std.proofs.lemmas.Int.{ints}
use Rattle.std.specs.Prelude.{int_le, unsigned_abs}
use Rattle.network_model.specs.declared.network.Rule.{Rule}
use Rattle.network_model.specs.declared.network.Rule.TheVariants.{Base, MinMax, Lot, Echelon, House}
use Rattle.model_terms.specs.Positions.{IsPosition, above_zero}
use Rattle.network_model.specs.Nodes.{peak_of}
use Rattle.node_state.specs.Orders.{base_order, min_max_order, lot_order, order_of}

-- positions of an instance are small
pub small_position : (x : ℤ) → IsPosition x → unsigned_abs x ≤ 10 ^ 6
small_position (pos n) p = let a = p.most in omega (arith, ints)
small_position (negsuc n) p = let a = p.least in omega (arith, ints)

at_most : (z : ℤ) → z ≤ℤ pos (above_zero z)
at_most (pos n) = omega (arith, ints)
at_most (negsuc n) = omega (arith, ints)

-- what is above 0 is itself
above_is : (z : ℤ) → 0 < above_zero z → pos (above_zero z) ≡ z
above_is (pos n) h = refl
above_is (negsuc n) h = absurd (omega arith)

-- and so is what is at least 0
exact : (z : ℤ) → pos 0 ≤ℤ z → pos (above_zero z) ≡ z
exact (pos n) h = refl
exact (negsuc n) h = absurd (omega (arith, ints))

base_within : (level p : ℤ) → 0 < base_order level p → (p +ℤ pos (base_order level p)) ≤ℤ pos (above_zero level)
base_within level p h = omega (arith, ints, above_is (level -ℤ p) h, at_most level)

min_max_within : (low high p : ℤ) → 0 < min_max_order low high p → (p +ℤ pos (min_max_order low high p)) ≤ℤ pos (above_zero high)
min_max_within low high p = by (int_le p low)
  where
    by : (b : Bool) → 0 < cond b (base_order high p) 0 → (p +ℤ pos (cond b (base_order high p) 0)) ≤ℤ pos (above_zero high)
    by true h = base_within high p h
    by false h = absurd (omega arith)

-- the lots after the last whole one take up at most one lot
whole_lots : (n lot : ℕ) → lot * (n / lot + 1) ≤ n + lot
whole_lots n lot = omega arith

below_is : (a p : ℤ) → int_le p a ≡ true → pos (base_order a p) ≡ a -ℤ p
below_is a p e = let le : p ≤ℤ a = grind (arith, ints) in exact (a -ℤ p) (omega (arith, ints))

lot_within : (reorder : ℤ) (lot : ℕ) (p : ℤ) → 0 < lot_order reorder lot p → (p +ℤ pos (lot_order reorder lot p)) ≤ℤ pos (above_zero (reorder +ℤ pos lot))
lot_within reorder lot p = by (int_le p reorder) (below_is reorder p)
  where
    by : (b : Bool) → (b ≡ true → pos (base_order reorder p) ≡ reorder -ℤ p) → 0 < cond b (lot * (base_order reorder p / lot + 1)) 0 → (p +ℤ pos (cond b (lot * (base_order reorder p / lot + 1)) 0)) ≤ℤ pos (above_zero (reorder +ℤ pos lot))
    by true n h = omega (arith, ints, n refl, whole_lots (base_order reorder p) lot, at_most (reorder +ℤ pos lot))
    by false n h = absurd (omega arith)

pub order_within : (rule : Rule) (p : ℤ) → 0 < order_of rule p → (p +ℤ pos (order_of rule p)) ≤ℤ pos (peak_of rule)
order_within (Base level) p h = base_within level p h
order_within (MinMax low high) p h = min_max_within low high p h
order_within (Lot reorder lot) p h = lot_within reorder lot p h
order_within (Echelon level) p h = base_within level p h
order_within (House index cap) p h = absurd (omega arith)
