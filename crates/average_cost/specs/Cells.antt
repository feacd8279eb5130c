-- The cells of a certificate.
use Rattle.std.specs.Prelude.{ℕ}
use Rattle.decision_model.specs.declared.average.Average.{Average}
use Rattle.value_cert.specs.AverageValues.{at_place}
use Rattle.value_cert.specs.declared.average.AverageCell.{AverageCell}

-- the cell of a place, by both tables
abbrev pub cell_at : Average → (ℕ → ℕ) → (ℕ → ℕ) → ℕ → AverageCell
cell_at item lower upper k = record { at = at_place item k; lower = lower k; upper = upper k }
