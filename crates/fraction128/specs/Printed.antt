-- Fractions as text.
use Rattle.std.specs.Prelude.{ℕ, ◌++◌, ℤ, List, ◌∷◌, decimal, if◌then◌else◌, ◌==◌}
use Rattle.std.specs.Fmt.{signed_decimal}
use Rattle.fraction128.specs.Reduced.{lowest_num, lowest_den}

-- the numerator, and behind a slash the denominator where it isn't 1
abbrev pub frac_text : ℤ → ℕ → List ℕ
frac_text num den = if den == 1 then signed_decimal num else signed_decimal num ++ 47 ∷ decimal den

-- num/den in lowest terms, as text
abbrev pub quotient_text : ℤ → ℕ → List ℕ
quotient_text num den = frac_text (lowest_num num den) (lowest_den num den)
