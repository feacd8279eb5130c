-- The serial kind: ranges, the grid of positions and the width number.
use Rattle.std.specs.Prelude.{◌≡◌, ℕ, ◌+◌, ◌-◌, ◌*◌, ◌^◌, ◌≤◌, length, sum, slice_index_or, All, ℤ, pos, ◌≤ℤ◌, Bool, nat_le, ◌&&◌}
use Rattle.std.specs.List.{AllAdjacentBelow}
use Rattle.demand_law.specs.Sequences.{greatest_in}
use Rattle.decision_model.specs.declared.serial.Serial.{Serial}
use Rattle.decision_model.specs.Limits.{most_echelons, most_positions, most_cells, most_bits}
use Rattle.decision_model.specs.declared.kinds.Kind.TheVariants as kind
use Rattle.decision_model.specs.Rules.{Rules}
use Rattle.decision_model.specs.Rates.{IsRate, IsHorizon, IsDiscount}
use Rattle.decision_model.specs.DemandLaws.{AreDemandLaws, common_total}
use Rattle.decision_model.specs.Positions.{IsPosition, IsCap, low_after, positions_from}

-- from 1 to 8 echelons with rates and a start each, numbers in range, and a law or one each for all periods
pub record IsReadableSerial (serial : Serial) : Type 0 where
  pub periods : IsHorizon serial.periods
  pub some_echelon : 1 ≤ length serial.holding
  pub most_echelons : length serial.holding ≤ most_echelons
  pub unit_each : length serial.unit ≡ length serial.holding
  pub start_each : length serial.start ≡ length serial.holding
  pub holding : All IsRate serial.holding
  pub unit : All IsRate serial.unit
  pub stockout : IsRate serial.stockout
  pub discount : IsDiscount serial.discount_num serial.discount_den
  pub laws : AreDemandLaws serial.laws serial.periods
  pub cap : IsCap serial.cap
  pub start : All IsPosition serial.start
  pub never_falling : AllAdjacentBelow (λ x y. x ≤ℤ y) serial.start (length serial.start)
  pub last_below : slice_index_or serial.start (length serial.start - 1) (pos 0) ≤ℤ serial.cap

-- the low end of the grid in period t, from 1
abbrev pub serial_low : Serial → ℕ → ℤ
serial_low serial t = low_after (slice_index_or serial.start 0 (pos 0)) (greatest_in serial.laws) (t - 1)

-- how many positions the grid has after the last period
unfoldable pub serial_positions : Serial → ℕ
serial_positions serial = positions_from (serial_low serial (serial.periods + 1)) serial.cap

-- at most 2,000 positions, and at most 1,000,000 cells of a period, an echelon and a position
pub record SerialGridFits (serial : Serial) : Type 0 where
  pub positions : serial_positions serial ≤ most_positions
  pub cells : serial.periods * length serial.holding * serial_positions serial ≤ most_cells

abbrev pub serial_grid_fits : Serial → Bool
serial_grid_fits serial = nat_le (serial_positions serial) most_positions && nat_le (serial.periods * length serial.holding * serial_positions serial) most_cells

-- a whole number above each cost of a period
unfoldable pub serial_cost_bound : Serial → ℕ
serial_cost_bound serial =
    1 + (serial.stockout + sum serial.holding + sum serial.unit) * (serial_positions serial + greatest_in serial.laws)

-- the width number: no whole number that a table, a certificate or its check holds is larger
unfoldable pub serial_width : Serial → ℕ
serial_width serial =
    (2 * serial.periods) ^ length serial.holding * serial_cost_bound serial
    * common_total serial.laws ^ serial.periods
    * serial.discount_den ^ serial.periods

-- all rules but that on the width number
pub record IsRegularSerial (serial : Serial) : Type 0 where
  pub readable : IsReadableSerial serial
  pub grid : SerialGridFits serial

pub record IsValidSerial (serial : Serial) : Type 0 where
  pub regular : IsRegularSerial serial
  pub width : serial_width serial ≤ 2 ^ most_bits

abbrev pub serial_rules : Serial → Rules
serial_rules serial = record {
  kind = kind.Serial;
  readable = IsReadableSerial serial;
  grid = SerialGridFits serial;
  grid_test = serial_grid_fits serial;
  width = serial_width serial ≤ 2 ^ most_bits;
  width_test = nat_le (serial_width serial) (2 ^ most_bits);
  regular = IsRegularSerial serial;
  valid = IsValidSerial serial;
}
