-- Products of lists, over whole numbers without limit.
use Rattle.std.specs.Prelude.{ℕ, ◌*◌, List, [], ◌∷◌}

-- the product of all numbers, 1 where there is none
abbrev pub product : List ℕ → ℕ
product [] = 1
product (x ∷ xs) = x * product xs
