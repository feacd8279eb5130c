-- How much room the recursion works in.
use Rattle.std.specs.Prelude.{ℕ, ◌+◌, ◌*◌, min, Option, Some, None}
use Rattle.demand_law.specs.Sequences.{greatest_in}
use Rattle.decision_model.specs.declared.finite.Finite.{Finite}
use Rattle.decision_model.specs.Finite.{finite_positions}

-- two sums for each demand that a lead time's periods and one more can have together
abbrev pub lead_sums : ℕ → ℕ → ℕ
lead_sums lead greatest = 2 * ((lead + 1) * greatest + 1)

-- two cells for each position that an order of the greatest size can pass, where orders have one
abbrev pub capacity_cells : Option ℕ → ℕ → ℕ
capacity_cells None positions = 0
capacity_cells (Some most) positions = 2 * min most positions

-- two rows over the grid, and the cells for the greatest order
abbrev pub cells_needed : Finite → ℕ
cells_needed finite = 2 * finite_positions finite + capacity_cells finite.most (finite_positions finite)

abbrev pub sums_needed : Finite → ℕ
sums_needed finite = lead_sums finite.lead (greatest_in finite.laws)
