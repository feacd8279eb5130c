-- The first breach of lines: the first line that breaks a rule, and the least rule that it breaks.
use Rattle.std.specs.Prelude.{ℕ, ◌+◌, ◌-◌, ◌^◌, min, List, [], ◌∷◌, ◌++◌, length, if◌then◌else◌, Option, Some, None, is_none}
use Rattle.line_text.specs.Grammar.{GrammarOf, place_after}
use Rattle.line_text.specs.Rules.{RulesOf, later_rule}

-- a grammar, and rules on its lines
pub record RuledGrammar : Type 1 where
  pub Line : Type 0
  pub Place : Type 0
  pub grammar : GrammarOf Line Place
  pub rules : RulesOf Line

abbrev pub ruled : {Line Place : Type 0} → GrammarOf Line Place → RulesOf Line → RuledGrammar
ruled {Line} {Place} grammar rules = record { Line = Line; Place = Place; grammar = grammar; rules = rules }

-- a line, from 1, and the least rule that it breaks
pub record Breach : Type 0 where
  pub line : ℕ
  pub rule : ℕ

-- the least rule that a line breaks behind lines that all pass: it can stand there in a text (1), and what the rules ask of it (from 2 on)
abbrev pub broken_rule : (G : RuledGrammar) → List G.Line → G.Line → Option ℕ
broken_rule G before line = if is_none (place_after G.grammar (before ++ line ∷ [])) then Some 1 else later_rule G.rules before line

-- the number of the line behind these, as far as a u64 can count
abbrev pub next_line : {Line : Type 0} → List Line → ℕ
next_line before = min (length before + 1) (2 ^ 64 - 1)

-- a breach in the line behind these
abbrev pub breach_behind : {Line : Type 0} → List Line → ℕ → Breach
breach_behind before rule = record { line = next_line before; rule = rule }

-- the breach in the line behind these, or else one further on
abbrev pub breach_or : {Line : Type 0} → List Line → Option ℕ → Option Breach → Option Breach
breach_or before None further = further
breach_or before (Some rule) further = Some (breach_behind before rule)

-- the first breach of lines behind lines that all pass
abbrev pub lines_breach_from : (G : RuledGrammar) → List G.Line → List G.Line → Option Breach
lines_breach_from G before [] = None
lines_breach_from G before (line ∷ lines) =
    breach_or before (broken_rule G before line) (lines_breach_from G (before ++ line ∷ []) lines)

abbrev pub lines_breach : (G : RuledGrammar) → List G.Line → Option Breach
lines_breach G lines = lines_breach_from G [] lines
