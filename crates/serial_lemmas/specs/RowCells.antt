-- The cells of a row that are those of a function of positions, from the low end up, and what lines put down of them.
use Rattle.std.proofs.Common.{◌≡◌, ℕ, zero, suc, ◌+◌, ◌<◌, ◌≤◌, cond, ◌&&◌, List, [], ◌∷◌, length, map, ℤ, pos, ◌+ℤ◌, ◌<ℤ◌, refl, ap, ◌∙◌, arith}
use Rattle.std.specs.List.{range_with_len}
use Rattle.std.proofs.lemmas.Bool.{eq-eqb, ne_eqb}
use Rattle.std.proofs.lemmas.Int.{ints}
use Rattle.value_cert.specs.Numbers.{is_number}
use Rattle.value_cert.specs.RuleTests.{number_at, number_other}
use Rattle.value_cert.specs.SerialRules.{put_value, cell_value}
use Rattle.value_cert.specs.declared.serial.SerialCell.{SerialCell}

-- ---- cells
-- a cell that stands at its place of a row and has the value of its position
pub record CellPasses (E : ℤ → ℤ) (low : ℤ) (width place : ℕ) (cell : SerialCell) : Type 0 where
  pub inside : place < width
  pub at : cell.at ≡ low +ℤ pos place
  pub value : cell.value ≡ E cell.at

-- the cells of a row from a place on
abbrev pub CellsPass : (ℤ → ℤ) → ℤ → ℕ → ℕ → List SerialCell → Type 0
CellsPass E low width place [] = Unit {0}
CellsPass E low width place (cell ∷ cells) = CellPasses E low width place cell × CellsPass E low width (suc place) cells

-- what the lines of cells of an echelon put down
abbrev pub put_cells : (ℕ → ℤ → ℤ) → ℕ → List SerialCell → ℕ → ℤ → ℤ
put_cells values i [] = values
put_cells values i (cell ∷ cells) = put_cells (put_value values i cell.at cell.value) i cells

-- cells of equal functions
pub cells_same : (E G : ℤ → ℤ) (low : ℤ) (width place : ℕ) (cells : List SerialCell) → ((x : ℤ) → E x ≡ G x) → CellsPass E low width place cells → CellsPass G low width place cells
cells_same E G low width place [] same pass = tt
cells_same E G low width place (cell ∷ cells) same pass =
    (record { inside = pass.0.inside; at = pass.0.at; value = pass.0.value ∙ same cell.at }, cells_same E G low width (suc place) cells same pass.1)

-- a row has no more cells than its period has positions
pub cells_most : (E : ℤ → ℤ) (low : ℤ) (width place : ℕ) (cells : List SerialCell) → place ≤ width → CellsPass E low width place cells → place + length cells ≤ width
cells_most E low width place [] le pass = omega (arith, le)
cells_most E low width place (cell ∷ cells) le pass = omega (arith, cells_most E low width (suc place) cells (omega (arith, pass.0.inside)) pass.1)

-- the positions of its cells go up from that of its first one
pub cells_at : (E : ℤ → ℤ) (low : ℤ) (width place : ℕ) (cells : List SerialCell) → CellsPass E low width place cells → map (λ cell. cell.at) cells ≡ map (λ k. low +ℤ pos k) (range_with_len place (length cells))
cells_at E low width place [] pass = refl
cells_at E low width place (cell ∷ cells) pass =
    let next : suc place ≡ place + 1 = omega arith in
    ap (λ at. at ∷ map (λ cell. cell.at) cells) pass.0.at
    ∙ ap (λ rest. (low +ℤ pos place) ∷ rest) (cells_at E low width (suc place) cells pass.1 ∙ ap (λ k. map (λ k. low +ℤ pos k) (range_with_len k (length cells))) next)

-- the value of a position among the cells
pub cells_value : (E : ℤ → ℤ) (low : ℤ) (width place : ℕ) (cells : List SerialCell) (k : ℕ) (x : ℤ) → CellsPass E low width place cells → k < length cells → x ≡ low +ℤ pos (place + k) → cell_value cells x ≡ E x
cells_value E low width place [] k x pass lt at = absurd (omega (arith, lt))
cells_value E low width place (cell ∷ cells) zero x pass lt at =
    let here : cell.at ≡ x = omega (arith, ints, pass.0.at, at) in
    ap (λ b. cond b cell.value (cell_value cells x)) (number_at cell.at x here) ∙ pass.0.value ∙ ap E here
cells_value E low width place (cell ∷ cells) (suc k) x pass lt at =
    let apart : cell.at ≡ x → ⊥ = λ same. absurd (omega (arith, ints, pass.0.at, at, same)) in
    ap (λ b. cond b cell.value (cell_value cells x)) (number_other cell.at x apart) ∙ cells_value E low width (suc place) cells k x pass.1 (omega (arith, lt)) (omega (arith, ints, at))

-- ---- what is put down
-- a value of another echelon stays
pub put_other : (values : ℕ → ℤ → ℤ) (i : ℕ) (at value : ℤ) (j : ℕ) (x : ℤ) → (j ≡ i → ⊥) → put_value values i at value j x ≡ values j x
put_other values i at value j x differ = ap (λ b. cond (b && is_number at x) value (values j x)) (ne_eqb j i differ)

-- so it does where cells are put down
pub cells_other : (values : ℕ → ℤ → ℤ) (i : ℕ) (cells : List SerialCell) (j : ℕ) (x : ℤ) → (j ≡ i → ⊥) → put_cells values i cells j x ≡ values j x
cells_other values i [] j x differ = refl
cells_other values i (cell ∷ cells) j x differ =
    cells_other (put_value values i cell.at cell.value) i cells j x differ ∙ put_other values i cell.at cell.value j x differ

-- the value of a position that is put down, and of another
put_here : (values : ℕ → ℤ → ℤ) (i : ℕ) (at value x : ℤ) → at ≡ x → put_value values i at value i x ≡ value
put_here values i at value x same = ap (λ b. cond (b && is_number at x) value (values i x)) (eq-eqb i i refl) ∙ ap (λ b. cond b value (values i x)) (number_at at x same)

-- where it is another one
put_elsewhere : (values : ℕ → ℤ → ℤ) (i : ℕ) (at value x : ℤ) → (at ≡ x → ⊥) → put_value values i at value i x ≡ values i x
put_elsewhere values i at value x differ = ap (λ b. cond (b && is_number at x) value (values i x)) (eq-eqb i i refl) ∙ ap (λ b. cond b value (values i x)) (number_other at x differ)

-- a position below all cells keeps its value
cells_keep : (values : ℕ → ℤ → ℤ) (i : ℕ) (E : ℤ → ℤ) (low : ℤ) (width place : ℕ) (cells : List SerialCell) (x : ℤ) → CellsPass E low width place cells → x <ℤ (low +ℤ pos place) → put_cells values i cells i x ≡ values i x
cells_keep values i E low width place [] x pass below = refl
cells_keep values i E low width place (cell ∷ cells) x pass below =
    cells_keep (put_value values i cell.at cell.value) i E low width (suc place) cells x pass.1 (omega (arith, ints, below))
    ∙ put_elsewhere values i cell.at cell.value x (λ same. absurd (omega (arith, ints, pass.0.at, same, below)))

-- each position of the cells has the value of the function
pub cells_put : (values : ℕ → ℤ → ℤ) (i : ℕ) (E : ℤ → ℤ) (low : ℤ) (width place : ℕ) (cells : List SerialCell) (k : ℕ) (x : ℤ) → CellsPass E low width place cells → k < length cells → x ≡ low +ℤ pos (place + k) → put_cells values i cells i x ≡ E x
cells_put values i E low width place [] k x pass lt at = absurd (omega (arith, lt))
cells_put values i E low width place (cell ∷ cells) zero x pass lt at =
    let here : cell.at ≡ x = omega (arith, ints, pass.0.at, at) in
    cells_keep (put_value values i cell.at cell.value) i E low width (suc place) cells x pass.1 (omega (arith, ints, at))
    ∙ put_here values i cell.at cell.value x here
    ∙ pass.0.value
    ∙ ap E here
cells_put values i E low width place (cell ∷ cells) (suc k) x pass lt at =
    cells_put (put_value values i cell.at cell.value) i E low width (suc place) cells k x pass.1 (omega (arith, lt)) (omega (arith, ints, at))
