-- The first breach of a text, for whoever reads it line by line.
use Rattle.std.proofs.Common.{◌≡◌, ℕ, ◌<◌, Bool, true, false, cond, eqb, ◌&&◌, List, [], ◌∷◌, ◌++◌, length, drop, Option, Some, None, sym, refl, ap, ◌∙◌, arith, append_assoc, append-nil}
use Rattle.std.specs.Prelude.{◌==◌}
use Rattle.std.specs.List.{slice_split, join_with_byte}
use Rattle.std.specs.Option.{option_or}
use Rattle.std.proofs.lemmas.List.Splits.{length-slice_split, slice_split_none, join_with_byte-slice_split}
use borrow.Author.Tests.{ne_eqb}
use Rattle.line_text.specs.Breaches.{RuledGrammar, Breach, broken_rule, breach_behind, breach_or, lines_breach, lines_breach_from}
use Rattle.line_text.specs.Grammar.{has_ended, place_from, place_after}
use Rattle.line_text.specs.LineWords.{IsWithout}
use Rattle.line_text.specs.Reading.{ReaderState, line_text, lines_text, IsUnfinished, EndsLine, Refuses, HasRead}
use Rattle.line_text.specs.ReadingFacts.{slice_split-text, split_behind_line, first_line_refused, past_not_empty, place_from-append}
use Rattle.line_text.specs.TextBreaches.{end_breach, piece_rule, pieces_breach, text_breach}

-- the pieces of a text: each but the last has a line feed behind it
abbrev pub pieces_of : List ℕ → List (List ℕ)
pieces_of text = slice_split (λ byte. byte == 10) text

some_pieces : (text : List ℕ) → 0 < length (pieces_of text)
some_pieces text = omega (arith, length-slice_split (λ byte. byte == 10) text)

-- the breach behind a piece that is the words of a line
next_piece : (G : RuledGrammar) (before : List G.Line) (at next : G.Place) (line : G.Line) (pieces : List (List ℕ)) → G.grammar.step at line ≡ Some next → 0 < length pieces
    → pieces_breach G before (G.grammar.words line ∷ pieces) ≡ breach_or before (broken_rule G before line) (pieces_breach G (before ++ line ∷ []) pieces)
next_piece G before at next line [] step some = absurd (omega (arith, some))
next_piece G before at next line (piece ∷ pieces) step some = rw (G.grammar.spells at line next step) refl

-- where a line was read, the breach is that of the line, or else one further on
pub read_breach : (G : RuledGrammar) (lines : List G.Line) (old new : ReaderState G.Place) (piece more : List ℕ) (count : ℕ) (line : G.Line) → EndsLine G.grammar old new piece count line
    → pieces_breach G lines (pieces_of ((old.unfinished ++ piece) ++ more))
    ≡ breach_or lines (broken_rule G lines line) (pieces_breach G (lines ++ line ∷ []) (pieces_of (drop count piece ++ more)))
read_breach G lines old new piece more count line ended =
    ap (pieces_breach G lines) (split_behind_line G.grammar old new piece more count line ended)
    ∙ next_piece G lines old.place new.place line (pieces_of (drop count piece ++ more)) ended.place (some_pieces (drop count piece ++ more))

never_both : (b : Bool) (breach : Option Breach) → cond (b && false) None breach ≡ breach
never_both true breach = refl
never_both false breach = refl

no_bytes : (bytes : List ℕ) → length bytes ≡ 0 → bytes ≡ []
no_bytes [] h = refl
no_bytes (byte ∷ bytes) h = absurd (omega (arith, h))

step_refused : {P : Type 0} (x : Option P) → ((next : P) → x ≡ Some next → ⊥) → x ≡ None
step_refused None h = refl
step_refused (Some next) h = absurd (h next refl)

-- a piece whose line may not stand there breaks the first rule
first_line_rule : (G : RuledGrammar) (before : List G.Line) (at : G.Place) (first : List ℕ) → place_after G.grammar before ≡ Some at
    → ((line : G.Line) (next : G.Place) → G.grammar.spelt first ≡ Some line → G.grammar.step at line ≡ Some next → ⊥) → piece_rule G before (G.grammar.spelt first) ≡ Some 1
first_line_rule G before at first here none = by_line (G.grammar.spelt first) none
  where
    by_line : (x : Option G.Line) → ((line : G.Line) (next : G.Place) → x ≡ Some line → G.grammar.step at line ≡ Some next → ⊥) → piece_rule G before x ≡ Some 1
    by_line None h = refl
    by_line (Some line) h =
        let nowhere : place_after G.grammar (before ++ line ∷ []) ≡ None =
        place_from-append G.grammar (Some G.grammar.start) before (line ∷ []) ∙ ap (λ (p : Option G.Place). place_from G.grammar p (line ∷ [])) here
        ∙ ap (λ (p : Option G.Place). place_from G.grammar p []) (step_refused (G.grammar.step at line) (λ next. h line next refl)) in
        rw nowhere refl

-- where a reader refuses, the line under way breaks rule 1, however the text goes on
pub refused_breach : (G : RuledGrammar) (lines : List G.Line) (old : ReaderState G.Place) (piece more : List ℕ) → place_after G.grammar lines ≡ Some old.place → Refuses G.grammar old piece
    → pieces_breach G lines (pieces_of ((old.unfinished ++ piece) ++ more)) ≡ Some (breach_behind lines 1)
refused_breach G lines old piece more here refused = breach (pieces_of (front ++ more)) refl (some_pieces (front ++ more))
  where
    front : List ℕ
    front = old.unfinished ++ piece

    breach : (pieces : List (List ℕ)) → pieces_of ((old.unfinished ++ piece) ++ more) ≡ pieces → 0 < length pieces → pieces_breach G lines pieces ≡ Some (breach_behind lines 1)
    breach [] split some = absurd (omega (arith, some))
    breach (first ∷ []) split some =
        let all : front ++ more ≡ first = sym (join_with_byte-slice_split 10 (front ++ more)) ∙ ap (join_with_byte 10) split in
        let empty : eqb (length first) 0 ≡ false =
        ne_eqb (length first) 0 (λ none. past_not_empty G.grammar.limit front more G.grammar.some refused.past (all ∙ no_bytes first none)) in
        rw empty (never_both (has_ended G.grammar (place_after G.grammar lines)) (Some (breach_behind lines 1)))
    breach (first ∷ next ∷ pieces) split some =
        let rule = first_line_rule G lines old.place first here
        (first_line_refused G.grammar old.place (old.unfinished ++ piece) more first (next ∷ pieces) refused.past refused.none split) in
        rw rule refl

-- where the text ends, the unfinished line is its last piece
pub unfinished_breach : (G : RuledGrammar) (lines : List G.Line) (unfinished : List ℕ) → IsWithout 10 unfinished
    → pieces_breach G lines (pieces_of unfinished) ≡ end_breach G lines unfinished
unfinished_breach G lines unfinished none = ap (pieces_breach G lines) (slice_split_none (λ byte. byte == 10) unfinished none)

breach_or-option_or : {L : Type 0} (before : List L) (rule : Option ℕ) (a b : Option Breach) → breach_or before rule (option_or a b) ≡ option_or (breach_or before rule a) b
breach_or-option_or before None a b = refl
breach_or-option_or before (Some rule) a b = refl

-- the first breach of a text that begins with these lines, which may stand so, is that of the lines, or else one behind them
pub lines_then_pieces : (G : RuledGrammar) (before lines : List G.Line) (from : Option G.Place) (to : G.Place) (rest : List ℕ) → place_from G.grammar from lines ≡ Some to
    → pieces_breach G before (pieces_of (lines_text G.grammar lines ++ rest))
    ≡ option_or (lines_breach_from G before lines) (pieces_breach G (before ++ lines) (pieces_of rest))
lines_then_pieces G before [] from to rest stand =
    ap (λ (ls : List G.Line). pieces_breach G ls (pieces_of rest)) (sym (append-nil before))
lines_then_pieces G before (line ∷ lines) None to rest stand = absurd (let e : None ≡ Some to = stand in cc)
lines_then_pieces G before (line ∷ lines) (Some at) to rest stand =
    by_step (G.grammar.step at line) refl stand (λ next behind. lines_then_pieces G (before ++ line ∷ []) lines (Some next) to rest behind)
  where
    behind : List ℕ
    behind = lines_text G.grammar lines ++ rest

    by_step : (x : Option G.Place) → G.grammar.step at line ≡ x → place_from G.grammar x lines ≡ Some to
        → ((next : G.Place) → place_from G.grammar (Some next) lines ≡ Some to
        → pieces_breach G (before ++ line ∷ []) (pieces_of (lines_text G.grammar lines ++ rest))
        ≡ option_or (lines_breach_from G (before ++ line ∷ []) lines) (pieces_breach G ((before ++ line ∷ []) ++ lines) (pieces_of rest)))
        → pieces_breach G before (pieces_of (lines_text G.grammar (line ∷ lines) ++ rest))
        ≡ option_or (lines_breach_from G before (line ∷ lines)) (pieces_breach G (before ++ line ∷ lines) (pieces_of rest))
    by_step None step stand further = absurd (let e : None ≡ Some to = stand in cc)
    by_step (Some next) step stand further =
        let text : (line_text G.grammar line ++ lines_text G.grammar lines) ++ rest ≡ G.grammar.words line ++ 10 ∷ behind =
        append_assoc (line_text G.grammar line) (lines_text G.grammar lines) rest ∙ append_assoc (G.grammar.words line) (10 ∷ []) behind in
        ap (λ (t : List ℕ). pieces_breach G before (pieces_of t)) text
        ∙ ap (pieces_breach G before) (slice_split-text (G.grammar.words line) behind (G.grammar.without_feed at line next step))
        ∙ next_piece G before at next line (pieces_of behind) step (some_pieces behind)
        ∙ ap (breach_or before (broken_rule G before line)) (further next stand)
        ∙ breach_or-option_or before (broken_rule G before line) (lines_breach_from G (before ++ line ∷ []) lines) _
        ∙ ap (λ (ls : List G.Line). option_or (lines_breach_from G before (line ∷ lines)) (pieces_breach G ls (pieces_of rest))) (append_assoc before (line ∷ []) lines)

-- the first breach of a text whose front a reader has read
pub text_breach-read : (G : RuledGrammar) (reader : ReaderState G.Place) (bytes more : List ℕ) (lines : List G.Line) → HasRead G.grammar reader bytes lines
    → text_breach G (bytes ++ more) ≡ option_or (lines_breach G lines) (pieces_breach G lines (pieces_of (reader.unfinished ++ more)))
text_breach-read G reader bytes more lines read =
    ap (text_breach G) (ap (λ (t : List ℕ). t ++ more) read.text ∙ append_assoc (lines_text G.grammar lines) reader.unfinished more)
    ∙ lines_then_pieces G [] lines (Some G.grammar.start) reader.place (reader.unfinished ++ more) read.place

-- where the text ends there
pub text_breach-ended : (G : RuledGrammar) (reader : ReaderState G.Place) (bytes : List ℕ) (lines : List G.Line) → HasRead G.grammar reader bytes lines → IsUnfinished G.grammar.limit reader.unfinished
    → text_breach G bytes ≡ option_or (lines_breach G lines) (end_breach G lines reader.unfinished)
text_breach-ended G reader bytes lines read unfinished =
    ap (text_breach G) (sym (append-nil bytes))
    ∙ text_breach-read G reader bytes [] lines read
    ∙ ap (λ (t : List ℕ). option_or (lines_breach G lines) (pieces_breach G lines (pieces_of t))) (append-nil reader.unfinished)
    ∙ ap (option_or (lines_breach G lines)) (unfinished_breach G lines reader.unfinished unfinished.without_feed)
