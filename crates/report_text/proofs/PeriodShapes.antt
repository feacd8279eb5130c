-- The lines of rows from the last to the first, as those of periods from 1 up.
use Rattle.std.proofs.Common.{◌≡◌, ℕ, ◌+◌, ◌++◌, List, ◌∙◌, ap, codes}
use Rattle.std.specs.List.{flat_map, range_with_len}
use Rattle.std.proofs.lemmas.List.Folds.{flat_map-map}
use Rattle.decision_model.specs.declared.finite.Finite.{Finite}
use Rattle.value_cert.specs.FiniteRules.{cells_of, HasEachRow}
use Rattle.value_cert.specs.declared.finite.FiniteCert.{FiniteCert}
use Rattle.finite_ss.specs.PeriodRows.{row_at, rows_are}
use Rattle.report_text.specs.Finite.{period_lines, row_lines, shapes_lines}

-- where each period has its row
pub by_periods : (finite : Finite) (c : FiniteCert) → HasEachRow finite c
    → shapes_lines c.rows ≡ codes "kind finite\n" ++ flat_map (λ place. period_lines (place + 1) (cells_of c.rows (place + 1))) (range_with_len 0 finite.periods)
by_periods finite c has =
    ap (λ (lines : List ℕ). codes "kind finite\n" ++ lines)
    (ap (flat_map row_lines) (rows_are finite c has) ∙ flat_map-map row_lines (row_at c) (range_with_len 0 finite.periods))
