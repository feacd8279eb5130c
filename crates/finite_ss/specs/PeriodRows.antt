-- A certificate that has each row has them from the last period to the first.
use Rattle.std.proofs.Common.{◌≡◌, ℕ, suc, ◌+◌, ◌-◌, ◌<◌, [], length, map, reverse, slice_index_or, sym, ◌∙◌, ap, arith}
use Rattle.std.specs.List.{range_with_len}
use Rattle.std.proofs.lemmas.List.{length-reverse, get_or-reverse}
use Rattle.std.proofs.lemmas.List.FromFn.{fill_by_all}
use Rattle.decision_model.specs.declared.finite.Finite.{Finite}
use Rattle.value_cert.specs.FiniteRules.{cells_of, HasEachRow}
use Rattle.value_cert.specs.declared.finite.FiniteCert.{FiniteCert}
use Rattle.value_cert.specs.declared.finite.FiniteRow.{FiniteRow}
use Rattle.finite_lemmas.specs.SolvedRows.{period_cells}

-- the row of a period, with the cells that it has in a certificate
abbrev pub row_at : FiniteCert → ℕ → FiniteRow
row_at c place = record { period = place + 1; cells = cells_of c.rows (place + 1) }

no_row : FiniteRow
no_row = record { period = 0; cells = [] }

-- the row at a place from the end is that of the period
row_is : (finite : Finite) (c : FiniteCert) (place : ℕ) (d : FiniteRow) → HasEachRow finite c → place < finite.periods → slice_index_or (reverse c.rows) place d ≡ row_at c place
row_is finite c place d has lt =
    let from_end : length c.rows - 1 - place ≡ finite.periods - (place + 1) = omega (arith, has.count) in
    let row : FiniteRow = slice_index_or c.rows (finite.periods - (place + 1)) d in
    let period : row.period ≡ place + 1 = has.periods (finite.periods - (place + 1)) d (omega (arith, lt)) ∙ omega (arith, lt) in
    let cells = sym (period_cells finite c (place + 1) d has (omega arith) (omega (arith, lt))) in
    get_or-reverse c.rows place d (omega (arith, lt, has.count))
    ∙ ap (λ k. slice_index_or c.rows k d) from_end
    ∙ λ i. record { period = period i; cells = cells i }

-- so the rows from the end are those of the periods
pub rows_are : (finite : Finite) (c : FiniteCert) → HasEachRow finite c → reverse c.rows ≡ map (row_at c) (range_with_len 0 finite.periods)
rows_are finite c has = fill_by_all (row_at c) (reverse c.rows) finite.periods no_row (length-reverse c.rows ∙ has.count) (λ k lt. row_is finite c k no_row has lt)
