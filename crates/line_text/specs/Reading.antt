-- What a reader of lines knows of the bytes that have come, and what it says of the next ones.
use Rattle.std.specs.Prelude.{◌≡◌, ◌⊎◌, ℕ, ◌+◌, ◌-◌, ◌^◌, ◌<◌, ◌≤◌, min, List, [], ◌∷◌, ◌++◌, length, take, Bool, true, false, Option, Some, Contains, MatchOption}
use Rattle.std.specs.List.{flat_map}
use Rattle.line_text.specs.Breaches.{next_line}
use Rattle.line_text.specs.Grammar.{GrammarOf, place_after, has_ended}
use Rattle.line_text.specs.LineWords.{IsWithout}

-- a reader of lines
pub record ReaderState (Place : Type 0) : Type 0 where
  -- where the line under way stands
  pub place : Place
  -- the number of that line, from 1, as far as a u64 can count
  pub number : ℕ
  -- its bytes so far
  pub unfinished : List ℕ
  -- a line came that could not stand where it did
  pub failed : Bool

-- a reader with the grammar that it reads by
pub record ReaderOf (Grammar Place : Type 0) : Type 0 where
  pub grammar : Grammar
  pub lines : ReaderState Place

-- the text of a line, and of lines
abbrev pub line_text : {Line Place : Type 0} → GrammarOf Line Place → Line → List ℕ
line_text {Line} {Place} grammar line = grammar.words line ++ 10 ∷ []

abbrev pub lines_text : {Line Place : Type 0} → GrammarOf Line Place → List Line → List ℕ
lines_text {Line} {Place} grammar lines = flat_map (line_text grammar) lines

-- lines that are a whole text
abbrev pub IsWhole : {Line Place : Type 0} → GrammarOf Line Place → List Line → Type 0
IsWhole {Line} {Place} grammar lines = has_ended grammar (place_after grammar lines) ≡ true

-- no text begins so
abbrev pub BeginsNoText : {Line Place : Type 0} → GrammarOf Line Place → List ℕ → Type 0
BeginsNoText {Line} {Place} grammar front = (whole : List Line) (more : List ℕ) → IsWhole grammar whole → front ++ more ≡ lines_text grammar whole → ⊥

-- bytes that a line may begin with and go on: fewer than the limit, and no line feed among them
pub record IsUnfinished (limit : ℕ) (bytes : List ℕ) : Type 0 where
  pub short : length bytes < limit
  pub without_feed : IsWithout 10 bytes

-- no line that may stand at the place begins what begins so, however it goes on
abbrev pub NoLineBegins : {Line Place : Type 0} → GrammarOf Line Place → Place → List ℕ → Type 0
NoLineBegins {Line} {Place} grammar at front =
    (line : Line) (next : Place) (more rest : List ℕ) → grammar.step at line ≡ Some next → front ++ more ≡ line_text grammar line ++ rest → ⊥

-- a line feed stands among the bytes, or they are too many for a line
abbrev pub IsPastLine : ℕ → List ℕ → Type 0
IsPastLine limit bytes = Contains bytes 10 ⊎ (limit ≤ length bytes)

-- the number of the next line, as far as a u64 can count
abbrev pub next_number : ℕ → ℕ
next_number number = min (number + 1) (2 ^ 64 - 1)

-- the line under way ended with the first bytes of a piece, and it may stand where it does
pub record EndsLine {Line Place : Type 0} (grammar : GrammarOf Line Place) (old new : ReaderState Place) (piece : List ℕ) (count : ℕ) (line : Line) : Type 0 where
  pub some : 0 < count
  pub within : count ≤ length piece
  pub text : old.unfinished ++ take count piece ≡ line_text grammar line
  pub place : grammar.step old.place line ≡ Some new.place
  pub number : new.number ≡ next_number old.number
  pub unfinished : new.unfinished ≡ []
  pub live : new.failed ≡ false

-- the line under way goes on past a piece
pub record KeepsPiece {Place : Type 0} (old new : ReaderState Place) (piece : List ℕ) (count : ℕ) : Type 0 where
  pub all : count ≡ length piece
  pub none : IsWithout 10 piece
  pub unfinished : new.unfinished ≡ old.unfinished ++ piece
  pub place : new.place ≡ old.place
  pub number : new.number ≡ old.number
  pub live : new.failed ≡ false

-- a part of a piece was taken, and some of it where there is any
pub record TakesSome (piece : List ℕ) (count : ℕ) : Type 0 where
  pub within : count ≤ length piece
  pub some : 0 < length piece → 0 < count

-- what a reader that hasn't failed says of a piece: how much was taken, and the line that ended with it
abbrev pub Reads : {Line Place : Type 0} → GrammarOf Line Place → ReaderState Place → ReaderState Place → List ℕ → ℕ → Option Line → Type 0
Reads {Line} {Place} grammar old new piece count line = MatchOption line (KeepsPiece old new piece count) (EndsLine grammar old new piece count)

-- with a piece the line under way ended, or grew too long, and it may not stand where it does
pub record Refuses {Line Place : Type 0} (grammar : GrammarOf Line Place) (old : ReaderState Place) (piece : List ℕ) : Type 0 where
  pub past : IsPastLine grammar.limit (old.unfinished ++ piece)
  pub none : NoLineBegins grammar old.place (old.unfinished ++ piece)

-- a reader refuses the line under way by its number, and stays so
pub record Fails {Place : Type 0} (old new : ReaderState Place) (number : ℕ) : Type 0 where
  pub told : number ≡ old.number
  pub after : new ≡ record old { failed = true }

-- a reader has read these bytes: they are these lines, which may stand so, and an unfinished one
pub record HasRead {Line Place : Type 0} (grammar : GrammarOf Line Place) (reader : ReaderState Place) (bytes : List ℕ) (lines : List Line) : Type 0 where
  pub text : bytes ≡ lines_text grammar lines ++ reader.unfinished
  pub place : place_after grammar lines ≡ Some reader.place
  pub number : reader.number ≡ next_line lines
  pub live : reader.failed ≡ false

-- each text that begins with these bytes begins with these lines
abbrev pub AreLinesOf : {Line Place : Type 0} → GrammarOf Line Place → List ℕ → List Line → Type 0
AreLinesOf {Line} {Place} grammar bytes lines =
    (whole : List Line) (more : List ℕ) → IsWhole grammar whole → bytes ++ more ≡ lines_text grammar whole → (rest : List Line) × (whole ≡ lines ++ rest)

-- The steps of a reader.

-- no line that may stand at the place has these words
abbrev pub NoLineIs : {Line Place : Type 0} → GrammarOf Line Place → Place → List ℕ → Type 0
NoLineIs {Line} {Place} grammar at words = (line : Line) (next : Place) → grammar.step at line ≡ Some next → words ≡ grammar.words line → ⊥

-- a piece with no line feed made the line too long
pub record TooLong {Place : Type 0} (limit : ℕ) (old new : ReaderState Place) (piece : List ℕ) (number : ℕ) : Type 0 where
  pub fails : Fails old new number
  pub long : limit ≤ length (old.unfinished ++ piece)

-- a line that has these last bytes, and the place behind it
pub record IsEnded {Line Place : Type 0} (grammar : GrammarOf Line Place) (old : ReaderState Place) (end : List ℕ) (line : Line) (at : Place) : Type 0 where
  pub words : old.unfinished ++ end ≡ grammar.words line
  pub place : grammar.step old.place line ≡ Some at

-- the line under way ended with these last bytes, and it may stand where it does
pub record EndsWith {Line Place : Type 0} (grammar : GrammarOf Line Place) (old new : ReaderState Place) (end : List ℕ) (line : Line) : Type 0 where
  pub words : old.unfinished ++ end ≡ grammar.words line
  pub place : grammar.step old.place line ≡ Some new.place
  pub number : new.number ≡ next_number old.number
  pub unfinished : new.unfinished ≡ []
  pub live : new.failed ≡ false

-- no line that may stand where the line under way does has these last bytes
pub record Misplaced {Line Place : Type 0} (grammar : GrammarOf Line Place) (old new : ReaderState Place) (end : List ℕ) (number : ℕ) : Type 0 where
  pub fails : Fails old new number
  pub none : NoLineIs grammar old.place (old.unfinished ++ end)
