-- What `check` prints.
use Rattle.std.specs.Prelude.{ℕ, List, ◌++◌, codes, decimal}

-- a certificate that is accepted
abbrev pub accepted_text : List ℕ
accepted_text = codes "accepted\n"

-- the first line that breaks a rule, from 1, and the rule
abbrev pub rejection_text : ℕ → ℕ → List ℕ
rejection_text line rule = codes "rejected line " ++ decimal line ++ codes " rule " ++ decimal rule ++ codes "\n"
