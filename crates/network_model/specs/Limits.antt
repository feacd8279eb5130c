-- The ranges of a network's numbers, as numbers: a definition never rests on the code's own constants.
use Rattle.std.specs.Prelude.{ℕ}
pub use Rattle.model_terms.specs.Limits.{most_rate, most_word}

-- the most periods of a network
abbrev pub most_network_periods : ℕ
most_network_periods = 10000

-- the most nodes of a network
abbrev pub most_nodes : ℕ
most_nodes = 64

-- the greatest stock of a node before the first period
abbrev pub most_initial : ℕ
most_initial = 1000000

-- the greatest lot
abbrev pub most_lot : ℕ
most_lot = 1000000

-- the greatest number of a rule of the caller's own
abbrev pub most_house_index : ℕ
most_house_index = 63

-- the greatest cap on the orders of a rule of the caller's own
abbrev pub most_house_cap : ℕ
most_house_cap = 1000000

-- the most sources of a node
abbrev pub most_sources : ℕ
most_sources = 8

-- the most periods that an order or a unit is under way
abbrev pub most_network_lead : ℕ
most_network_lead = 64

-- the greatest demand of a period that is listed
abbrev pub most_trace : ℕ
most_trace = 10000

-- the most pauses of a network
abbrev pub most_pauses : ℕ
most_pauses = 1000

-- the most that a node may hold, see and order in all periods
abbrev pub most_load : ℕ
most_load = 1000000000000
