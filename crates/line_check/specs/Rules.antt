-- What rules on lines are asked, and what they answer.
use Rattle.std.specs.Prelude.{◌≡◌, ℕ, List, [], ◌∷◌, ◌++◌, Option, Some, None}
use Rattle.line_text.specs.Grammar.{GrammarOf}
use Rattle.line_text.specs.Rules.{RulesOf, later_rule}

-- the line may stand somewhere in a text
pub record MayStand {Line Place : Type 0} (grammar : GrammarOf Line Place) (line : Line) : Type 0 where
  pub at : Place
  pub next : Place
  pub step : grammar.step at line ≡ Some next

-- it is the least rule from 2 on that the line breaks, and where it breaks none the further line is known too
pub record AnswersLine {Line : Type 0} (rules : RulesOf Line) (knows : List Line → Type 0) (before : List Line) (line : Line) (answer : Option ℕ) : Type 0 where
  pub rule : answer ≡ later_rule rules before line
  pub known : answer ≡ None → knows (before ++ line ∷ [])
