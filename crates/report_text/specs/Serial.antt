-- What `solve` prints of serial systems. A certificate has its periods from the last to the first; they are printed the
-- other way.
use Rattle.std.specs.Prelude.{ℕ, ◌+◌, ℤ, List, ◌++◌, codes, decimal, reverse}
use Rattle.std.specs.Fmt.{signed_decimal}
use Rattle.std.specs.List.{flat_map, range_with_len}
use Rattle.value_cert.specs.declared.serial.SerialPeriod.{SerialPeriod}
use Rattle.value_cert.specs.declared.serial.SerialRow.{SerialRow}

-- the line of an echelon's level in a period, both from 1
abbrev pub level_text : ℕ → ℕ → ℤ → List ℕ
level_text period echelon level = codes "period " ++ decimal period ++ codes " echelon " ++ decimal echelon ++ codes " S " ++ signed_decimal level ++ codes "\n"

-- the line of a row
abbrev pub level_line : ℕ → SerialRow → List ℕ
level_line period row = level_text period row.echelon row.level

-- the lines of a period, by the levels of its echelons
abbrev pub levels_text : ℕ → ℕ → (ℕ → ℤ) → List ℕ
levels_text period echelons levels = flat_map (λ i. level_text period (i + 1) (levels i)) (range_with_len 0 echelons)

-- the lines of a period, from its first echelon
abbrev pub period_lines : SerialPeriod → List ℕ
period_lines period = flat_map (level_line period.period) period.rows

-- the lines of all periods, from the first to the last
abbrev pub periods_lines : List SerialPeriod → List ℕ
periods_lines periods = flat_map period_lines (reverse periods)

-- the levels of each period
abbrev pub levels_lines : List SerialPeriod → List ℕ
levels_lines periods = codes "kind serial\n" ++ periods_lines periods
