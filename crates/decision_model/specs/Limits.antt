-- The ranges of an instance's numbers, as numbers: a definition never rests on the code's own constants.
use Rattle.std.specs.Prelude.{ℕ}
pub use Rattle.model_terms.specs.Limits.{most_rate, most_periods, most_discount, most_demand, most_total, least_position, most_position, most_cap, most_word, most_name}
pub use Rattle.network_model.specs.Limits.{most_network_periods, most_nodes, most_initial, most_lot, most_house_index, most_house_cap, most_sources, most_network_lead, most_trace, most_pauses, most_load}

-- the greatest setup cost over a horizon of uncertain demand
abbrev pub most_setup : ℕ
most_setup = 1000000000

-- the longest lead time, in periods
abbrev pub most_lead : ℕ
most_lead = 8

-- the most positions of the grid of an average or a serial instance
abbrev pub most_positions : ℕ
most_positions = 2000

-- the most cells of a period, an echelon and a position
abbrev pub most_cells : ℕ
most_cells = 1000000

-- a width number is at most 2 to this power
abbrev pub most_bits : ℕ
most_bits = 120

-- ---- lot sizing
-- the most periods of lot sizing
abbrev pub most_lot_periods : ℕ
most_lot_periods = 2000

-- the greatest demand of a period of lot sizing
abbrev pub most_lot_demand : ℕ
most_lot_demand = 1000000

-- the greatest setup cost of lot sizing
abbrev pub most_lot_setup : ℕ
most_lot_setup = 1000000000000

-- ---- the finite kind
-- the greatest order of a period that may be set
abbrev pub most_order : ℕ
most_order = 1000000

-- the most positions of the grid of a finite instance
abbrev pub most_finite_positions : ℕ
most_finite_positions = 20000

-- ---- the average kind on a wide range
-- the most positions of the grid of an average instance whose cost is bounded
abbrev pub most_wide_positions : ℕ
most_wide_positions = 20000

-- in how many parts of one bounds of the average cost count
abbrev pub parts : ℕ
parts = 1000000

-- ---- the serial kind
-- the most echelons of a serial system
abbrev pub most_echelons : ℕ
most_echelons = 8
