-- Rows and cells by their places.
use Rattle.std.proofs.Common.{◌≡◌, ◌≢◌, ℕ, zero, suc, ◌<◌, ℤ, List, [], ◌∷◌, length, slice_index_or, if◌then◌else◌, ◌∙◌, ap, arith}
use Rattle.std.proofs.lemmas.Bool.{eq-eqb, ne_eqb}
use Rattle.value_cert.specs.FiniteRules.{cells_of, cell_choice}
use Rattle.value_cert.specs.RuleTests.{number_at, number_other}
use Rattle.value_cert.specs.declared.finite.FiniteCell.{FiniteCell}
use Rattle.value_cert.specs.declared.finite.FiniteRow.{FiniteRow}

-- the cells of a period are those of the first row of it
pub cells_of_row : (rows : List FiniteRow) (place period : ℕ) (d : FiniteRow) → place < length rows → (slice_index_or rows place d).period ≡ period
    → ((k : ℕ) → k < place → (slice_index_or rows k d).period ≢ period) → cells_of rows period ≡ (slice_index_or rows place d).cells
cells_of_row [] place period d lt is before = absurd (omega arith)
cells_of_row (row ∷ rows) zero period d lt is before = ap (λ b. if b then row.cells else cells_of rows period) (eq-eqb row.period period is)
cells_of_row (row ∷ rows) (suc place) period d lt is before =
    ap (λ b. if b then row.cells else cells_of rows period) (ne_eqb row.period period (before 0 (omega arith)))
    ∙ cells_of_row rows place period d (omega arith) is (λ k below. before (suc k) (omega arith))

-- the choice at a position is that of the first cell of it
pub cell_choice_at : (cells : List FiniteCell) (place : ℕ) (x : ℤ) (d : FiniteCell) → place < length cells → (slice_index_or cells place d).at ≡ x
    → ((k : ℕ) → k < place → (slice_index_or cells k d).at ≢ x) → cell_choice cells x ≡ (slice_index_or cells place d).to
cell_choice_at [] place x d lt is before = absurd (omega arith)
cell_choice_at (cell ∷ cells) zero x d lt is before = ap (λ b. if b then cell.to else cell_choice cells x) (number_at cell.at x is)
cell_choice_at (cell ∷ cells) (suc place) x d lt is before =
    ap (λ b. if b then cell.to else cell_choice cells x) (number_other cell.at x (before 0 (omega arith)))
    ∙ cell_choice_at cells place x d (omega arith) is (λ k below. before (suc k) (omega arith))
