-- How far the solver has gone.
use Rattle.std.specs.Prelude.{ℕ, zero, suc, ℤ}
use Rattle.finite_lemmas.specs.SolvedFronts.{period_before, row_front, AreLater}
use Rattle.finite_recursion.specs.Recursions.{finite_of, KnowsRows}
use Rattle.finite_recursion.specs.declared.recursion.Recursion.{Recursion}
use Rattle.value_cert.specs.FiniteRules.{no_rows}
use Rattle.value_cert.specs.FiniteValues.{row_width}

-- the recursion has gone through the first places of the row that n periods follow, with the solver's values
pub record HasFront (recursion : Recursion) (n count : ℕ) : Type 0 where
  pub later : ℤ → ℤ
  pub are_later : AreLater (finite_of recursion) later n
  pub knows : KnowsRows recursion (row_front (finite_of recursion) later n count)

-- the recursion has gone through this many whole rows with the solver's values
abbrev pub HasSolved : Recursion → ℕ → Type 0
HasSolved recursion zero = KnowsRows recursion (no_rows (finite_of recursion))
HasSolved recursion (suc n) = HasFront recursion n (row_width (finite_of recursion) (period_before (finite_of recursion) n))
