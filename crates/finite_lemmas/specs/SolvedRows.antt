-- The rows of the solver's certificate, by their places.
use Rattle.std.proofs.Common.{◌≡◌, ℕ, suc, ◌+◌, ◌-◌, ◌<◌, ◌≤◌, ℤ, pos, ◌+ℤ◌, ◌-ℤ◌, ◌≤ℤ◌, List, [], ◌∷◌, length, map, slice_index_or, refl, ◌∙◌, ap, arith}
use Rattle.std.specs.List.{range_with_len}
use Rattle.std.proofs.lemmas.Int.{ints}
use Rattle.std.proofs.lemmas.List.FromFn.{length-map-range_with_len, get_or-map-range_with_len}
use Rattle.decision_model.specs.declared.finite.Finite.{Finite}
use Rattle.decision_model.specs.Finite.{IsReadableFinite, finite_low}
use Rattle.decision_model.specs.FiniteSound.{low_zero}
use Rattle.decision_model.specs.Positions.{above_zero}
use Rattle.value_cert.specs.FiniteRules.{solved_cell, solved_row, solved_finite, cells_of, cell_choice, finite_choices, HasEachRow}
use Rattle.value_cert.specs.FiniteValues.{row_width, least_choice, least_values}
use Rattle.value_cert.specs.declared.finite.FiniteCell.{FiniteCell}
use Rattle.value_cert.specs.declared.finite.FiniteCert.{FiniteCert}
use Rattle.value_cert.specs.declared.finite.FiniteRow.{FiniteRow}
use Rattle.finite_lemmas.specs.KConvex.{above_zero_is}
use Rattle.finite_lemmas.specs.LeastChoice.{place_is}
use Rattle.finite_lemmas.specs.RowCells.{cells_of_row, cell_choice_at}

-- ---- any certificate that has each row
-- the cells of a period are those of the row at its place
pub period_cells : (finite : Finite) (c : FiniteCert) (t : ℕ) (d : FiniteRow) → HasEachRow finite c → 1 ≤ t → t ≤ finite.periods → cells_of c.rows t ≡ (slice_index_or c.rows (finite.periods - t) d).cells
period_cells finite c t d has some le =
    cells_of_row c.rows (finite.periods - t) t d (omega (arith, has.count, some, le))
    (has.periods (finite.periods - t) d (omega (arith, some, le)) ∙ omega (arith, le))
    (λ k lt e. absurd (omega (arith, has.periods k d (omega (arith, lt)), e, lt, le)))

-- ---- the solver's
-- the row of the period that n periods follow
pub solved_at : (finite : Finite) (n : ℕ) (d : FiniteRow) → n < finite.periods → slice_index_or (solved_finite finite).rows n d ≡ solved_row finite n (finite.periods - n)
solved_at finite n d lt = get_or-map-range_with_len (λ n. solved_row finite n (finite.periods - n)) 0 finite.periods n n d lt (omega arith)

-- its positions
solved_positions : (finite : Finite) (n t : ℕ) → map (λ cell. cell.at) (solved_row finite n t).cells ≡ map (λ place. finite.cap -ℤ pos place) (range_with_len 0 (row_width finite t))
solved_positions finite n t = positions (range_with_len 0 (row_width finite t))
  where
    positions : (places : List ℕ) → map (λ (cell : FiniteCell). cell.at) (map (λ place. solved_cell finite n t (finite.cap -ℤ pos place)) places) ≡ map (λ place. finite.cap -ℤ pos place) places
    positions [] = refl
    positions (place ∷ places) = ap (λ xs. (finite.cap -ℤ pos place) ∷ xs) (positions places)

-- it has each row
pub solved_has_rows : (finite : Finite) → HasEachRow finite (solved_finite finite)
solved_has_rows finite = record {
  count = length-map-range_with_len (λ n. solved_row finite n (finite.periods - n)) 0 finite.periods;
  periods = λ k d lt. ap (λ (row : FiniteRow). row.period) (solved_at finite k d lt);
  positions = λ k d lt. ap (λ (row : FiniteRow). map (λ cell. cell.at) row.cells) (solved_at finite k d lt) ∙ solved_positions finite k (finite.periods - k);
}

-- the cells of period t, which n periods follow
pub solved_cells : (finite : Finite) (n t : ℕ) → 1 ≤ t → t + n ≡ finite.periods → cells_of (solved_finite finite).rows t ≡ (solved_row finite n t).cells
solved_cells finite n t some e =
    let row = solved_row finite n t in
    let left : finite.periods - t ≡ n = omega (arith, e) in
    let now : finite.periods - n ≡ t = omega (arith, e) in
    period_cells finite (solved_finite finite) t row (solved_has_rows finite) some (omega (arith, e))
    ∙ ap (λ k. (slice_index_or (solved_finite finite).rows k row).cells) left
    ∙ ap (λ (r : FiniteRow). r.cells) (solved_at finite n row (omega (arith, e, some)))
    ∙ ap (λ k. (solved_row finite n k).cells) now

-- the cells of a row are those of the choices that are to, from the cap down to low
pub record AreCellsOf (to : ℤ → ℤ) (low cap : ℤ) (cells : List FiniteCell) : Type 0 where
  pub width : low +ℤ pos (length cells) ≡ cap +ℤ pos 1
  pub at : (k : ℕ) (d : FiniteCell) → k < length cells → (slice_index_or cells k d).at ≡ cap -ℤ pos k
  pub to_is : (k : ℕ) (d : FiniteCell) → k < length cells → (slice_index_or cells k d).to ≡ to (cap -ℤ pos k)

-- how wide a row is
pub row_width_is : (finite : Finite) → IsReadableFinite finite → (t : ℕ) → finite_low finite t +ℤ pos (row_width finite t) ≡ finite.cap +ℤ pos 1
row_width_is finite readable t =
    omega (arith, ints, low_zero finite t, readable.cap.least, above_zero_is (finite.cap -ℤ finite_low finite t +ℤ pos 1))

-- those of the solver's row are of its choices
pub solved_are : (finite : Finite) → IsReadableFinite finite → (n t : ℕ) → AreCellsOf (least_choice finite (least_values finite n (suc t)) n t) (finite_low finite t) finite.cap (solved_row finite n t).cells
solved_are finite readable n t = record {
  width = ap (λ k. finite_low finite t +ℤ pos k) count ∙ row_width_is finite readable t;
  at = λ k d lt. ap (λ (cell : FiniteCell). cell.at) (cell_is k d (omega (arith, lt, count)));
  to_is = λ k d lt. ap (λ (cell : FiniteCell). cell.to) (cell_is k d (omega (arith, lt, count)));
}
  where
    cell_at : ℕ → FiniteCell
    cell_at place = solved_cell finite n t (finite.cap -ℤ pos place)

    count : length (solved_row finite n t).cells ≡ row_width finite t
    count = length-map-range_with_len cell_at 0 (row_width finite t)

    cell_is : (k : ℕ) (d : FiniteCell) → k < row_width finite t → slice_index_or (solved_row finite n t).cells k d ≡ solved_cell finite n t (finite.cap -ℤ pos k)
    cell_is k d lt = get_or-map-range_with_len cell_at 0 (row_width finite t) k k d lt (omega arith)

-- the choice at a position of a row
pub choice_in : (to : ℤ → ℤ) (low cap : ℤ) (cells : List FiniteCell) (x : ℤ) (d : FiniteCell) → AreCellsOf to low cap cells → low ≤ℤ x → x ≤ℤ cap → cell_choice cells x ≡ to x
choice_in to low cap cells x d are from below =
    let place = above_zero (cap -ℤ x) in
    let there : x +ℤ pos place ≡ cap = place_is x cap below in
    let within : place < length cells = omega (arith, ints, are.width, there, from) in
    let here : cap -ℤ pos place ≡ x = omega (arith, ints, there) in
    cell_choice_at cells place x d within (are.at place d within ∙ here)
    (λ k lt e. let at = are.at k d (omega (arith, lt, within)) in absurd (omega (arith, ints, at, e, here, lt)))
    ∙ are.to_is place d within ∙ ap to here

-- the solver's certificate chooses as the solver
pub solved_chooses : (finite : Finite) → IsReadableFinite finite → (n t : ℕ) (x : ℤ) → 1 ≤ t → t + n ≡ finite.periods → finite_low finite t ≤ℤ x → x ≤ℤ finite.cap → finite_choices (solved_finite finite) t x ≡ least_choice finite (least_values finite n (suc t)) n t x
solved_chooses finite readable n t x some e from below =
    ap (λ cells. cell_choice cells x) (solved_cells finite n t some e)
    ∙ choice_in (least_choice finite (least_values finite n (suc t)) n t) (finite_low finite t) finite.cap (solved_row finite n t).cells x (solved_cell finite n t x) (solved_are finite readable n t) from below
