-- The cells of a lot plan's check, one a period.
use Rattle.std.specs.Prelude.{ℕ, ◌+◌, ◌-◌, List, slice_index_or, ◌==◌, if◌then◌else◌, ℤ, pos, unsigned_abs}
use Rattle.decision_model.specs.declared.lots.LotSize.{LotSize}
use Rattle.value_cert.specs.LotPlans.{serving_cost}

-- what the cell of a period holds
abbrev pub cell_at : List ℤ → ℕ → ℕ
cell_at cells t = unsigned_abs (slice_index_or cells t (pos 0))

-- what it is to hold: what it held before period s, and how far the dual of period s exceeds the cost of serving it from period t
abbrev pub raised_cell : LotSize → List ℤ → ℕ → ℕ → ℕ → ℕ
raised_cell lots cells s dual t = (if t == s then 0 else cell_at cells t) + (dual - serving_cost lots t s)
