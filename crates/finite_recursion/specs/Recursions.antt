-- What a recursion over the values of a finite horizon has gone through.
use Rattle.std.specs.Prelude.{◌≡◌, ℕ, ◌-◌, ◌<◌, ◌≤◌, ◌==◌, ◌||◌, nat_le, ℤ, pos, ◌-ℤ◌, Bool, List, length}
use Rattle.decision_model.specs.declared.finite.Finite.{Finite}
use Rattle.value_cert.specs.FiniteValues.{cost_after, row_width}
use Rattle.value_cert.specs.FiniteRules.{FirstRows, last_period}
use Rattle.finite_recursion.specs.Rows.{row_period, later_width, value_at}
use Rattle.finite_recursion.specs.declared.recursion.Recursion.{Recursion}

-- the instance that it is of
abbrev pub finite_of : Recursion → Finite
finite_of recursion = recursion.finite.now

-- how many periods have a row so far, begun or whole
abbrev pub rows_of : Recursion → ℕ
rows_of recursion = recursion.rows

-- how many positions of the last row have a value so far
abbrev pub place_of : Recursion → ℕ
place_of recursion = recursion.row.place

-- the last row has all positions of its period, or there is none
abbrev pub is_whole : Recursion → Bool
is_whole recursion = (recursion.rows == 0) || nat_le (row_width recursion.finite.now (row_period recursion.finite.now recursion.rows)) recursion.row.place

-- the next position of the last row
abbrev pub next_position : Recursion → ℤ
next_position recursion = recursion.finite.now.cap -ℤ pos recursion.row.place

-- the next position of the last of these rows
abbrev pub next_at : Finite → FirstRows → ℤ
next_at finite first = finite.cap -ℤ pos (length first.values)

-- tables hold what these rows name: the last row's values and costs at its first places, and the later row's values at the others
pub record KnowsTables (finite : Finite) (rows place : ℕ) (values costs : List ℤ) (first : FirstRows) : Type 0 where
  pub rows_are : rows ≡ first.rows
  pub place_is : place ≡ length first.values
  pub kept : (k : ℕ) → k < place → value_at values k ≡ value_at first.values k
  pub later : (k : ℕ) → place ≤ k → k < later_width finite rows → value_at values k ≡ first.later (finite.cap -ℤ pos k)
  pub kept_costs : (k : ℕ) → k < place → value_at costs k ≡ cost_after finite first.later (first.rows - 1) (last_period finite first) (finite.cap -ℤ pos k)

-- the recursion has gone through these rows
abbrev pub KnowsRows : Recursion → FirstRows → Type 0
KnowsRows recursion first = KnowsTables recursion.finite.now recursion.rows recursion.row.place recursion.values.now recursion.costs.now first
