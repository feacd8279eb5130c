-- What a check stands for.
use Rattle.std.specs.Prelude.{◌≡◌, ℕ, List, Some, None, true}
use Rattle.line_text.specs.Grammar.{has_ended, place_after}
use Rattle.line_text.specs.Breaches.{RuledGrammar, lines_breach, next_line}
use Rattle.line_check.specs.Verdicts.{fed_verdict}
use Rattle.line_check.specs.declared.verdict.Verdict.{Verdict}

-- these lines break no rule, and a text may end behind them
pub record AreWhole (G : RuledGrammar) (lines : List G.Line) : Type 0 where
  pub ended : has_ended G.grammar (place_after G.grammar lines) ≡ true
  pub unbroken : lines_breach G lines ≡ None

-- these lines break no rule, the next one stands at this place and has this number, and the rules know of them
pub record IsPassing (G : RuledGrammar) (knows : List G.Line → Type 0) (at : G.Place) (number : ℕ) (lines : List G.Line) : Type 0 where
  pub unbroken : lines_breach G lines ≡ None
  pub place : place_after G.grammar lines ≡ Some at
  pub count : number ≡ next_line lines
  pub known : knows lines

-- the check stands for these lines: it holds the verdict on them, and where they break no rule what the next line needs
pub record IsCheckOf (G : RuledGrammar) (knows : List G.Line → Type 0) (at : G.Place) (number : ℕ) (verdict : Verdict) (lines : List G.Line) : Type 0 where
  pub said : verdict ≡ fed_verdict G lines
  pub passing : lines_breach G lines ≡ None → IsPassing G knows at number lines
