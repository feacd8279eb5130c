-- The first breach of a text: that of its lines, or that it ends too early, or spells no line.
use Rattle.std.specs.Prelude.{ℕ, List, [], ◌∷◌, ◌++◌, length, ◌==◌, ◌&&◌, if◌then◌else◌, Option, Some, None}
use Rattle.std.specs.List.{slice_split}
use Rattle.line_text.specs.Breaches.{RuledGrammar, Breach, breach_behind, breach_or, broken_rule}
use Rattle.line_text.specs.Grammar.{has_ended, place_after}

-- the breach where a text ends behind these lines and an unfinished one: none where a text may end there
abbrev pub end_breach : (G : RuledGrammar) → List G.Line → List ℕ → Option Breach
end_breach G before unfinished =
    if has_ended G.grammar (place_after G.grammar before) && (length unfinished == 0) then None else Some (breach_behind before 1)

-- the least rule that the line of a piece breaks behind lines that all pass; a piece that spells no line breaks rule 1
abbrev pub piece_rule : (G : RuledGrammar) → List G.Line → Option G.Line → Option ℕ
piece_rule G before None = Some 1
piece_rule G before (Some line) = broken_rule G before line

-- lines with that of a piece behind them
abbrev pub with_piece : {Line : Type 0} → List Line → Option Line → List Line
with_piece before None = before
with_piece before (Some line) = before ++ line ∷ []

-- the first breach of a text behind lines that all pass; a line feed stands behind each piece but the last
abbrev pub pieces_breach : (G : RuledGrammar) → List G.Line → List (List ℕ) → Option Breach
pieces_breach G before [] = end_breach G before []
pieces_breach G before (piece ∷ []) = end_breach G before piece
pieces_breach G before (piece ∷ next ∷ pieces) =
    breach_or before (piece_rule G before (G.grammar.spelt piece)) (pieces_breach G (with_piece before (G.grammar.spelt piece)) (next ∷ pieces))

-- the first breach of a text, if there is one
abbrev pub text_breach : (G : RuledGrammar) → List ℕ → Option Breach
text_breach G text = pieces_breach G [] (slice_split (λ byte. byte == 10) text)
