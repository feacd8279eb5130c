-- The ranges of numbers that instances of several kinds hold, as numbers: a definition never rests on the code's own constants.
use Rattle.std.specs.Prelude.{ℕ, ℤ, pos, negsuc}

-- the greatest cost rate per unit
abbrev pub most_rate : ℕ
most_rate = 1000000

-- the most periods of a horizon of uncertain demand
abbrev pub most_periods : ℕ
most_periods = 104

-- the greatest numerator and denominator of a discount
abbrev pub most_discount : ℕ
most_discount = 1000

-- the greatest demand of a law
abbrev pub most_demand : ℕ
most_demand = 10000

-- the greatest sum of a law's weights
abbrev pub most_total : ℕ
most_total = 1000000000

-- the least position, -1,000,000
abbrev pub least_position : ℤ
least_position = negsuc 999999

-- the greatest position
abbrev pub most_position : ℤ
most_position = pos 1000000

-- the greatest cap
abbrev pub most_cap : ℕ
most_cap = 1000000

-- the greatest word: a seed, and a number of a law that names one
abbrev pub most_word : ℕ
most_word = 4294967295

-- the longest name of a node
abbrev pub most_name : ℕ
most_name = 32
