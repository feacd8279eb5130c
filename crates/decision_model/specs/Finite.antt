-- The finite kind: ranges, the grid of positions and the width number.
use Rattle.std.specs.Prelude.{ℕ, ◌+◌, ◌-◌, ◌*◌, ◌^◌, ◌≤◌, ℤ, pos, ◌-ℤ◌, ◌≤ℤ◌, IfSome, Bool, nat_le, ◌&&◌}
use Rattle.demand_law.specs.Sequences.{greatest_in}
use Rattle.decision_model.specs.declared.finite.Finite.{Finite}
use Rattle.decision_model.specs.Limits.{most_lead, most_setup, most_order, most_finite_positions, most_cells, most_bits}
use Rattle.decision_model.specs.declared.kinds.Kind.TheVariants as kind
use Rattle.decision_model.specs.Rules.{Rules}
use Rattle.decision_model.specs.Rates.{IsRate, IsHorizon, IsDiscount}
use Rattle.decision_model.specs.DemandLaws.{AreDemandLaws, common_total}
use Rattle.decision_model.specs.Positions.{IsPosition, IsCap, above_zero, low_after, positions_from}

-- the greatest order of a period is from 1 to 1,000,000
pub record IsMostOrder (order : ℕ) : Type 0 where
  pub least : 1 ≤ order
  pub most : order ≤ most_order

-- numbers in range, and a law or one each for all periods that a cost looks at
pub record IsReadableFinite (finite : Finite) : Type 0 where
  pub periods : IsHorizon finite.periods
  pub lead : finite.lead ≤ most_lead
  pub setup : finite.setup ≤ most_setup
  pub unit : IsRate finite.unit
  pub holding : IsRate finite.holding
  pub stockout : IsRate finite.stockout
  pub end_holding : IsRate finite.end_holding
  pub end_stockout : IsRate finite.end_stockout
  pub discount : IsDiscount finite.discount_num finite.discount_den
  pub most : IfSome finite.most IsMostOrder
  pub laws : AreDemandLaws finite.laws (finite.periods + finite.lead)
  pub cap : IsCap finite.cap
  pub start : IsPosition finite.start
  pub start_below : finite.start ≤ℤ finite.cap

-- the low end of the grid in period t, from 1
abbrev pub finite_low : Finite → ℕ → ℤ
finite_low finite t = low_after finite.start (greatest_in finite.laws) (t - 1)

-- how many positions the grid has after the last period
unfoldable pub finite_positions : Finite → ℕ
finite_positions finite = positions_from (finite_low finite (finite.periods + 1)) finite.cap

-- at most 20,000 positions, and at most 1,000,000 cells of a period and a position
pub record FiniteGridFits (finite : Finite) : Type 0 where
  pub positions : finite_positions finite ≤ most_finite_positions
  pub cells : finite.periods * finite_positions finite ≤ most_cells

abbrev pub finite_grid_fits : Finite → Bool
finite_grid_fits finite = nat_le (finite_positions finite) most_finite_positions && nat_le (finite.periods * finite_positions finite) most_cells

-- the most that a unit can lack: all demand of an order's periods at the lowest position
abbrev pub finite_most_lacking : Finite → ℕ
finite_most_lacking finite = above_zero (pos ((finite.lead + 1) * greatest_in finite.laws) -ℤ finite_low finite (finite.periods + 1))

-- a whole number above each cost of a period and above each cost of the end
unfoldable pub finite_cost_bound : Finite → ℕ
finite_cost_bound finite =
    1 + finite.setup
    + finite.unit * finite_positions finite
    + finite.holding * above_zero finite.cap
    + finite.stockout * finite_most_lacking finite
    + (finite.end_holding + finite.end_stockout) * finite_positions finite

-- the width number: no whole number that a table, a certificate or its check holds is larger
unfoldable pub finite_width : Finite → ℕ
finite_width finite =
    finite.periods * finite_cost_bound finite
    * common_total finite.laws ^ (finite.periods + finite.lead)
    * finite.discount_den ^ finite.periods

-- all rules but that on the width number
pub record IsRegularFinite (finite : Finite) : Type 0 where
  pub readable : IsReadableFinite finite
  pub grid : FiniteGridFits finite

pub record IsValidFinite (finite : Finite) : Type 0 where
  pub regular : IsRegularFinite finite
  pub width : finite_width finite ≤ 2 ^ most_bits

abbrev pub finite_rules : Finite → Rules
finite_rules finite = record {
  kind = kind.Finite;
  readable = IsReadableFinite finite;
  grid = FiniteGridFits finite;
  grid_test = finite_grid_fits finite;
  width = finite_width finite ≤ 2 ^ most_bits;
  width_test = nat_le (finite_width finite) (2 ^ most_bits);
  regular = IsRegularFinite finite;
  valid = IsValidFinite finite;
}
