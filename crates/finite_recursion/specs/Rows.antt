-- What the recursion keeps of a row that is begun, beside its values.
use Rattle.std.specs.Prelude.{◌≡◌, ℕ, zero, suc, ◌+◌, ◌-◌, ◌*◌, ◌<◌, ◌≤◌, min, ℤ, pos, ◌+ℤ◌, ◌-ℤ◌, ◌*ℤ◌, Option, None, Some, List, [], ◌∷◌, ◌++◌, length, take, drop, slice_index_or}
use Rattle.demand_law.specs.Sequences.{greatest_in}
use Rattle.decision_model.specs.declared.finite.Finite.{Finite}
use Rattle.decision_model.specs.Finite.{finite_positions}
use Rattle.decision_model.specs.FiniteProblem.{law_of_period}
use Rattle.decision_model.specs.Sweeps.{IsSweepOf}
use Rattle.decision_model.specs.Walks.{IsWalkOf, place_of}
use Rattle.decision_model.specs.Windows.{room_of, IsWindowOf, last_of}
use Rattle.value_cert.specs.FiniteValues.{scale, stock_scale, lead_law, row_width, end_value}
use Rattle.finite_recursion.specs.Demands.{AreDemandsOf}
use Rattle.finite_recursion.specs.Sizes.{IsSmallStay, IsSmallValue}
use Rattle.finite_recursion.specs.Tables.{capacity_cells, sums_needed}
use Rattle.finite_recursion.specs.declared.laws.HeldLaws.{HeldLaws}
use Rattle.finite_recursion.specs.declared.reach.Reach.{Reach}
use Rattle.finite_recursion.specs.declared.reach.Reach.TheVariants as reach
use Rattle.finite_recursion.specs.declared.row.Row.{Row}
use Rattle.finite_recursion.specs.declared.scales.Scales.{Scales}

-- the period of the last of some rows
abbrev pub row_period : Finite → ℕ → ℕ
row_period finite rows = suc finite.periods - rows

-- how many positions the period after it has
abbrev pub later_width : Finite → ℕ → ℕ
later_width finite rows = row_width finite (suc finite.periods - (rows - 1))

-- what a cell holds
abbrev pub value_at : List ℤ → ℕ → ℤ
value_at cells place = slice_index_or cells place (pos 0)

-- ---- the positions that an order can lead to
-- the cells of a reach
abbrev pub reach_room : Reach → ℕ
reach_room (reach.All sweep) = 0
reach_room (reach.Last window) = room_of window

-- a reach has seen these pairs of positions and their costs with its room
abbrev pub IsReachOf : Option ℕ → ℕ → Reach → List ℤ → List (ℤ × ℤ) → Type 0
IsReachOf None positions (reach.All sweep) room pairs = IsSweepOf sweep pairs
IsReachOf None positions (reach.Last window) room pairs = ⊥
IsReachOf (Some most) positions (reach.All sweep) room pairs = ⊥
IsReachOf (Some most) positions (reach.Last window) room pairs = IsWindowOf (min most positions) window room pairs

-- of the pairs seen, those that an order of at most the greatest size can lead to
abbrev pub reached : Option ℕ → ℕ → List (ℤ × ℤ) → List (ℤ × ℤ)
reached None positions pairs = pairs
reached (Some most) positions pairs = last_of (min most positions) pairs

-- the first places of a row, from the cap down, each with a cost
abbrev pub row_pairs : (ℕ → ℤ × ℤ) → ℕ → List (ℤ × ℤ)
row_pairs pair zero = []
row_pairs pair (suc count) = row_pairs pair count ++ pair count ∷ []

-- the position of a place, and what staying there costs with the units up to there
abbrev pub order_pair : ℤ → ℤ → List ℤ → ℕ → ℤ × ℤ
order_pair cap unit costs place = (cap -ℤ pos place, value_at costs place +ℤ unit *ℤ (cap -ℤ pos place))

-- ---- laws and factors
-- these are the factors of a period that n periods follow
pub record AreScales (finite : Finite) (n : ℕ) (scales : Scales) : Type 0 where
  pub stock : scales.stock ≡ pos (stock_scale finite n)
  pub setup : scales.setup ≡ pos (scale finite (suc n) * finite.setup)
  pub unit : scales.unit ≡ pos (scale finite (suc n) * finite.unit)

-- the sums hold the law of a period's lead time, and behind it the demands of the period's law
pub record HoldsLaws (finite : Finite) (period : ℕ) (laws : HeldLaws) (sums : List ℕ) : Type 0 where
  pub half : laws.half ≡ (finite.lead + 1) * greatest_in finite.laws + 1
  pub lead_within : laws.lead ≤ laws.half
  pub lead : take laws.lead sums ≡ lead_law finite period
  pub listed_within : laws.half + laws.listed ≤ length sums
  pub listed : AreDemandsOf (law_of_period finite period) (take laws.listed (drop laws.half sums))

-- ---- a row
-- what is kept of a row of a period that n periods follow
pub record IsRow (finite : Finite) (n period : ℕ) (laws : HeldLaws) (row : Row) (costs room : List ℤ) (sums : List ℕ) : Type 0 where
  pub is_width : row.width ≡ row_width finite period
  pub place_within : row.place ≤ row.width
  pub are_scales : AreScales finite n row.scales
  pub are_laws : HoldsLaws finite period laws sums
  pub is_walk : IsWalkOf row.walk finite.holding finite.stockout (lead_law finite period)
  pub stands : row.place < row.width → place_of row.walk ≡ finite.cap -ℤ pos row.place
  pub is_room : length room ≡ reach_room row.reach
  pub is_reach : ∥ IsReachOf finite.most (finite_positions finite) row.reach room (row_pairs (order_pair finite.cap row.scales.unit costs) row.place) ∥₁

-- the same of the last row, where there is one
abbrev pub IsBegun : Finite → ℕ → HeldLaws → Row → List ℤ → List ℤ → List ℕ → Type 0
IsBegun finite rows laws row costs room sums = 1 ≤ rows → IsRow finite (rows - 1) (row_period finite rows) laws row costs room sums

-- how many cells and sums the tables have
pub record AreTables (finite : Finite) (values costs room : List ℤ) (sums : List ℕ) : Type 0 where
  pub are_values : length values ≡ finite_positions finite
  pub are_costs : length costs ≡ finite_positions finite
  pub is_room : length room ≡ capacity_cells finite.most (finite_positions finite)
  pub are_sums : length sums ≡ sums_needed finite

-- the values and costs of the last row's first places, and the values of the later row's others, are small
pub record AreSmall (finite : Finite) (rows place : ℕ) (values costs : List ℤ) : Type 0 where
  pub kept : (k : ℕ) → k < place → IsSmallValue finite rows (value_at values k)
  pub later : (k : ℕ) → place ≤ k → k < later_width finite rows → IsSmallValue finite (rows - 1) (value_at values k)
  pub small_costs : (k : ℕ) → k < place → IsSmallStay finite rows (value_at costs k)

-- no place has a value yet, and the values are those of the end
pub record IsFresh (finite : Finite) (place : ℕ) (values : List ℤ) : Type 0 where
  pub is_first : place ≡ 0
  pub ends : (k : ℕ) → k < row_width finite (suc finite.periods) → value_at values k ≡ end_value finite (finite.cap -ℤ pos k)
