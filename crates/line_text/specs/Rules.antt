-- Rules on lines, which go by what is known of the lines before.
use Rattle.std.specs.Prelude.{ℕ, List, [], ◌∷◌, Option}

-- what is known of no line and of a further one, and the least rule from 2 on that a line breaks behind lines of which this is known
pub record RulesOf (Line : Type 0) : Type 1 where
  pub Known : Type 0
  pub nothing : Known
  pub further : Known → Line → Known
  pub broken : Known → Line → Option ℕ

-- what is known of lines behind others
abbrev pub known_from : {Line : Type 0} → (rules : RulesOf Line) → rules.Known → List Line → rules.Known
known_from rules known [] = known
known_from rules known (line ∷ lines) = known_from rules (rules.further known line) lines

-- what is known of lines
abbrev pub known_of : {Line : Type 0} → (rules : RulesOf Line) → List Line → rules.Known
known_of rules lines = known_from rules rules.nothing lines

-- the least rule from 2 on that a line breaks behind these
abbrev pub later_rule : {Line : Type 0} → RulesOf Line → List Line → Line → Option ℕ
later_rule rules before line = rules.broken (known_of rules before) line
