-- What `solve` prints of newsvendors.
use Rattle.std.specs.Prelude.{ℕ, List, ◌++◌, codes, decimal}

-- the order-up-to level
abbrev pub level_lines : ℕ → List ℕ
level_lines level = codes "kind newsvendor\norder-up-to " ++ decimal level ++ codes "\n"
