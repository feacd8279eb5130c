-- What a piece that was kept, or that ended a line, says in the words of a reader's answers.
use Rattle.std.proofs.Common.{◌≡◌, ℕ, ◌+◌, false, List, ◌∷◌, ◌++◌, length, take, None, Result, Ok, Err, sym, subst}
use Rattle.std.specs.declared.option.Option.{Option}
use Rattle.std.specs.Prelude.{IfOk, OnErr, IsSomeAnd, MatchOption, MatchResult, option_to_list}
use Rattle.line_text.specs.Grammar.{GrammarOf}
use Rattle.line_text.specs.LineWords.{IsWithout}
use Rattle.line_text.specs.Reading.{ReaderState, EndsLine, KeepsPiece, TooLong, EndsWith, Misplaced, Reads, Refuses, HasRead, BeginsNoText, AreLinesOf}
use Rattle.line_text.specs.ReadingFacts.{long_refuses, misplaced_refuses, ends_reads, refuses_text, reads_on, has_read_lines}
use Rattle.line_text.specs.declared.reader.BadLine.{BadLine}
use Rattle.line_text.specs.declared.reader.Taken.{Taken}

abbrev pub Keeps : {L P : Type 0} → GrammarOf L P → ReaderState P → ReaderState P → List ℕ → Result (Taken L) BadLine → Type 0
Keeps {L} {P} G old new piece result =
    MatchResult result (λ taken. (taken.line ≡ None) × KeepsPiece old new piece taken.count) (λ bad. TooLong G.limit old new piece bad.number)

abbrev pub Finishes : {L P : Type 0} → GrammarOf L P → ReaderState P → ReaderState P → List ℕ → Result (Taken L) BadLine → Type 0
Finishes {L} {P} G old new end result =
    MatchResult result (λ taken. (taken.count ≡ length end + 1) × IsSomeAnd taken.line (EndsWith G old new end)) (λ bad. Misplaced G old new end bad.number)

abbrev pub Answers : {L P : Type 0} → GrammarOf L P → ReaderState P → ReaderState P → List ℕ → Result (Taken L) BadLine → Type 0
Answers {L} {P} G old new piece result = MatchResult result (λ taken. Reads G old new piece taken.count taken.line) (λ bad. Refuses G old piece)

pub keeps_answers : {L P : Type 0} (G : GrammarOf L P) (old new : ReaderState P) (piece : List ℕ) (result : Result (Taken L) BadLine) → IsWithout 10 old.unfinished → IsWithout 10 piece
    → Keeps G old new piece result → Answers G old new piece result
keeps_answers {L} {P} G old new piece (Ok taken) before now h =
    let Q : Option L → Type 0 = λ line. MatchOption line (KeepsPiece old new piece taken.count) (EndsLine G old new piece taken.count) in
    subst Q (sym h.0) h.1
keeps_answers G old new piece (Err bad) before now h = long_refuses G old piece before now h.long

pub finishes_answers : {L P : Type 0} (G : GrammarOf L P) (old new : ReaderState P) (piece end behind : List ℕ) (result : Result (Taken L) BadLine) → IsWithout 10 old.unfinished → IsWithout 10 end
    → piece ≡ end ++ 10 ∷ behind → Finishes G old new end result → Answers G old new piece result
finishes_answers G old new piece end behind (Ok taken) before now is h = ends_reads G old new piece end behind taken.count taken.line is h.0 h.1
finishes_answers G old new piece end behind (Err bad) before now is h = misplaced_refuses G old piece end behind before now is h.none

pub answer_reads : {L P : Type 0} (G : GrammarOf L P) (old new : ReaderState P) (piece : List ℕ) (result : Result (Taken L) BadLine) → Answers G old new piece result
    → IfOk result (λ taken. Reads G old new piece taken.count taken.line)
answer_reads G old new piece (Ok taken) h = h
answer_reads G old new piece (Err bad) h = tt

pub answer_refuses : {L P : Type 0} (G : GrammarOf L P) (old new : ReaderState P) (piece : List ℕ) (result : Result (Taken L) BadLine) → Answers G old new piece result
    → OnErr result (old.failed ≡ false → Refuses G old piece)
answer_refuses G old new piece (Ok taken) h = tt
answer_refuses G old new piece (Err bad) h = λ live. h

pub answer_read : {L P : Type 0} (G : GrammarOf L P) (old new : ReaderState P) (piece : List ℕ) (result : Result (Taken L) BadLine) → Answers G old new piece result
    → (bytes : List ℕ) (lines : List L) → HasRead G old bytes lines
    → MatchResult result (λ taken. HasRead G new (bytes ++ take taken.count piece) (lines ++ option_to_list taken.line)) (λ _. BeginsNoText G (bytes ++ piece))
answer_read G old new piece (Ok taken) h bytes lines read = reads_on G old new piece taken.count taken.line h bytes lines read
answer_read G old new piece (Err bad) h bytes lines read = refuses_text G old piece bytes lines read h

pub answer_lines : {L P : Type 0} (G : GrammarOf L P) (old new : ReaderState P) (piece : List ℕ) (result : Result (Taken L) BadLine) → Answers G old new piece result
    → (bytes : List ℕ) (lines : List L) → HasRead G old bytes lines
    → IfOk result (λ taken. AreLinesOf G (bytes ++ take taken.count piece) (lines ++ option_to_list taken.line))
answer_lines {L} G old new piece (Ok taken) h bytes lines read =
    has_read_lines G new (bytes ++ take taken.count piece) (lines ++ option_to_list taken.line) (reads_on G old new piece taken.count taken.line h bytes lines read)
answer_lines G old new piece (Err bad) h bytes lines read = tt
