-- What the choices of a period look like. A row has its cells from the highest position down.
use Rattle.std.specs.Prelude.{◌≡◌, ℕ, ◌<◌, ◌≤◌, ℤ, ◌≤ℤ◌, ◌<ℤ◌, int_le, int_lt, Bool, true, false, ◌&&◌, if◌then◌else◌, List, [], ◌∷◌, length, slice_index_or, All}
use Rattle.value_cert.specs.declared.finite.FiniteCell.{FiniteCell}
use Rattle.value_cert.specs.declared.finite.FiniteRow.{FiniteRow}
use Rattle.finite_ss.specs.declared.shapes.Shape.{Shape}
use Rattle.finite_ss.specs.declared.shapes.Shape.TheVariants.{Pair, Never, Table}

-- each cell orders up to high
abbrev pub all_order_to : ℤ → List FiniteCell → Bool
all_order_to high [] = true
all_order_to high (cell ∷ cells) = if int_lt cell.at cell.to && (int_le cell.to high && int_le high cell.to) then all_order_to high cells else false

-- the first cell that orders tells the pair, if all behind it order up to where it does
abbrev pub shape_of : List FiniteCell → Shape
shape_of [] = Never
shape_of (cell ∷ cells) = if int_lt cell.at cell.to then (if all_order_to cell.to cells then Pair cell.at cell.to else Table) else shape_of cells

-- the cell at a place is the highest that orders, at low, and it and all below it order up to high
pub record HasPair (cells : List FiniteCell) (low high : ℤ) : Type 0 where
  pub place : ℕ
  pub listed : place < length cells
  pub lowest : (d : FiniteCell) → (slice_index_or cells place d).at ≡ low
  pub stays : (k : ℕ) (d : FiniteCell) → k < place → (slice_index_or cells k d).to ≤ℤ (slice_index_or cells k d).at
  pub orders : (k : ℕ) (d : FiniteCell) → place ≤ k → k < length cells → ((slice_index_or cells k d).at <ℤ high) × ((slice_index_or cells k d).to ≡ high)

-- no cell orders
abbrev pub AllStay : List FiniteCell → Type 0
AllStay cells = All (λ cell. cell.to ≤ℤ cell.at) cells

-- what a shape says of a row: of the three exactly one holds
abbrev pub IsShape : List FiniteCell → Shape → Type 0
IsShape cells Never = AllStay cells
IsShape cells (Pair low high) = HasPair cells low high
IsShape cells Table = (AllStay cells → ⊥) × ((low high : ℤ) → HasPair cells low high → ⊥)

-- just one of the rows is of the period
pub record HasOneRowOf (period : ℕ) (rows : List FiniteRow) : Type 0 where
  pub place : ℕ
  pub listed : place < length rows
  pub is : (d : FiniteRow) → (slice_index_or rows place d).period ≡ period
  pub only : (k : ℕ) (d : FiniteRow) → k < length rows → (slice_index_or rows k d).period ≡ period → k ≡ place

-- a pair that orders up, or no order at all
abbrev pub IsPairOrNever : Shape → Type 0
IsPairOrNever Never = Unit {0}
IsPairOrNever (Pair low high) = low <ℤ high
IsPairOrNever Table = ⊥

-- the choice at a position that a shape tells: all positions up to low order up to high, the others stay
abbrev pub shape_choice : Shape → ℤ → ℤ
shape_choice (Pair low high) x = if int_le x low then high else x
shape_choice Never x = x
shape_choice Table x = x
