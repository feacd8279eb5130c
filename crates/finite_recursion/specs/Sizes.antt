-- How large the values of a finite horizon can be.
use Rattle.std.specs.Prelude.{ℕ, ◌+◌, ◌*◌, ℤ, pos, ◌+ℤ◌, ◌≤ℤ◌}
use Rattle.decision_model.specs.declared.finite.Finite.{Finite}
use Rattle.decision_model.specs.Positions.{above_zero}
use Rattle.decision_model.specs.Finite.{finite_positions, finite_most_lacking}
use Rattle.value_cert.specs.FiniteValues.{scale}

-- more than any period costs
unfoldable pub period_most : Finite → ℕ
period_most finite =
    1 + finite.setup + finite.unit * finite_positions finite + finite.holding * above_zero finite.cap + finite.stockout * finite_most_lacking finite

-- the most that the end costs
unfoldable pub end_most : Finite → ℕ
end_most finite = (finite.end_holding + finite.end_stockout) * finite_positions finite

-- the most that the cost of n periods and the end can be, by the scale of the values
unfoldable pub value_most : Finite → ℕ → ℕ
value_most finite n = (n * period_most finite + end_most finite) * scale finite n

-- the most that an order of a period costs, by the scale of n periods left
unfoldable pub order_most : Finite → ℕ → ℕ
order_most finite n = scale finite n * (finite.setup + finite.unit * finite_positions finite)

-- a value where n periods are left is in range
pub record IsSmallValue (finite : Finite) (n : ℕ) (value : ℤ) : Type 0 where
  pub least : pos 0 ≤ℤ value
  pub most : value ≤ℤ pos (value_most finite n)

-- what a position costs after the order, where n periods are left, is in range with the cost of any order
pub record IsSmallStay (finite : Finite) (n : ℕ) (stay : ℤ) : Type 0 where
  pub least : pos 0 ≤ℤ stay
  pub most : (stay +ℤ pos (order_most finite n)) ≤ℤ pos (value_most finite n)
