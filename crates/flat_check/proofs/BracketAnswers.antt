-- The rules of a bracket's certificate answer a line as they say.
use Rattle.std.proofs.Common.{◌≡◌, ℕ, List, [], ◌∷◌, ◌++◌, Option, None, sym, ap, ◌∙◌, subst}
use Rattle.decision_model.specs.declared.average.Average.{Average}
use Rattle.line_check.specs.Rules.{AnswersLine}
use Rattle.line_text.specs.Rules.{known_of}
use Rattle.value_cert.specs.BracketRules.{FirstCells, named_cells, bracket_rule, bracket_rules}
use Rattle.value_cert.specs.FlatKept.{known_more}
use Rattle.value_cert.specs.declared.flat_line.FlatLine.{FlatLine}
use Rattle.flat_check.specs.BracketKnown.{instance_of}
use Rattle.flat_check.specs.BracketRows.{KnowsRows, KnowsBracket}
use Rattle.flat_check.specs.declared.bracket_lines.BracketLines.{BracketLines}

pub bracket_answers : (average : Average) (before : List FlatLine) (line : FlatLine) (old new : BracketLines) (answer : Option ℕ)
    → KnowsBracket old average before → instance_of new.cells ≡ instance_of old.cells
    → ((first : FirstCells) → KnowsRows old first → answer ≡ bracket_rule (instance_of old.cells) first line)
    → ((first : FirstCells) → KnowsRows old first → answer ≡ None → KnowsRows new (named_cells first line))
    → AnswersLine (bracket_rules average) (KnowsBracket new average) before line answer
bracket_answers average before line old new answer knew same rule rows = record {
  rule = rule known knew.rows ∙ ap (λ (item : Average). bracket_rule item known line) knew.average_is;
  known = λ none. record {
    average_is = same ∙ knew.average_is;
    rows = subst (KnowsRows new) (sym (known_more (bracket_rules average) before line)) (rows known knew.rows none);
  };
}
  where
    known : FirstCells
    known = known_of (bracket_rules average) before
