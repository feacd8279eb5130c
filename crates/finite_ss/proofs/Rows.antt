-- The row of a period.
use Rattle.std.proofs.Common.{◌≡◌, ℕ, zero, suc, ◌<◌, List, [], ◌∷◌, length, drop, slice_index_or, sym, ◌∙◌, ap, arith, if◌then◌else◌}
use Rattle.std.proofs.lemmas.Bool.{eq-eqb}
use Rattle.value_cert.specs.FiniteRules.{cells_of}
use Rattle.value_cert.specs.declared.finite.FiniteRow.{FiniteRow}

-- a row at a place, of the period, has its cells where none before it is of the period
pub cells_here : (rows : List FiniteRow) (i t : ℕ) (row : FiniteRow) → i < length rows → row ≡ slice_index_or rows i row → row.period ≡ t → cells_of (drop i rows) t ≡ row.cells
cells_here [] i t row lt is of = absurd (omega arith)
cells_here (first ∷ rows) zero t row lt is of =
    let same : first.period ≡ t = sym (ap (λ (r : FiniteRow). r.period) is) ∙ of in
    ap (λ b. if b then first.cells else cells_of rows t) (eq-eqb first.period t same) ∙ sym (ap (λ (r : FiniteRow). r.cells) is)
cells_here (first ∷ rows) (suc i) t row lt is of = cells_here rows i t row (omega arith) is of
