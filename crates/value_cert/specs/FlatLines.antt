-- The text of a flat line, and the line that bytes spell.
use Rattle.std.specs.Prelude.{ℕ, List, [], ◌∷◌, ◌++◌, length, codes, map, take, drop, Bool, ◌≡◌, true, false, ◌==◌, ◌&&◌, nat_le, if◌then◌else◌, ℤ, pos, Option, Some, None}
use Rattle.std.specs.Fmt.{signed_decimal}
use Rattle.std.specs.List.{slice_split, join_with_byte, list_all}
use Rattle.std.specs.Ordering.{int_eq}
use Rattle.std.specs.Str.{bytes_eq}
use Rattle.std.proofs.Common.{get_or}
use Rattle.value_cert.specs.declared.flat_line.FlatLine.{FlatLine}
use Rattle.value_cert.specs.declared.flat_line.FlatLine.TheVariants.{Head, Row, End}
use Rattle.value_cert.specs.declared.flat_line.FlatPlace.{FlatPlace}
use Rattle.value_cert.specs.declared.flat_line.FlatPlace.TheVariants.{Start, Body, Ended}
use Rattle.value_cert.specs.declared.flat_line.FlatName.{FlatName}
use Rattle.value_cert.specs.declared.flat_line.FlatName.TheVariants.{Bracket, Pipeline, Service, Pairs}
use Rattle.line_text.specs.Grammar.{walk}
use Rattle.value_cert.specs.Numbers.{is_whole}
use Rattle.value_cert.specs.Parsing.{word_number}

abbrev pub name_word : FlatName → List ℕ
name_word Bracket = codes "bracket"
name_word Pipeline = codes "pipeline"
name_word Service = codes "service"
name_word Pairs = codes "pairs"

abbrev pub is_letter : ℕ → Bool
is_letter tag = nat_le 97 tag && nat_le tag 122

abbrev pub is_zero : ℤ → Bool
is_zero number = int_eq number (pos 0)

abbrev pub four : ℤ → ℤ → ℤ → ℤ → List ℤ
four a b c e = a ∷ b ∷ c ∷ e ∷ []

-- a row has a letter and one to four numbers; past its count stands 0
abbrev pub has_numbers : FlatLine → Bool
has_numbers Head = true
has_numbers (Row tag count a b c e) =
    is_letter tag && nat_le 1 count && nat_le count 4 && list_all is_whole (take count (four a b c e)) && list_all is_zero (drop count (four a b c e))
has_numbers End = true

-- the words of a line; one blank stands between two of them
abbrev pub words_of : FlatName → FlatLine → List (List ℕ)
words_of name Head = codes "certificate" ∷ codes "1" ∷ name_word name ∷ []
words_of name (Row tag count a b c e) = (tag ∷ []) ∷ map signed_decimal (take count (four a b c e))
words_of name End = codes "end" ∷ []

abbrev pub line_words : FlatName → FlatLine → List ℕ
line_words name line = join_with_byte 32 (words_of name line)

abbrev pub line_text : FlatName → FlatLine → List ℕ
line_text name line = line_words name line ++ 10 ∷ []

-- the row of a letter and some numbers
abbrev pub row_of : ℕ → List ℤ → FlatLine
row_of tag numbers = Row tag (length numbers) (get_or numbers 0 (pos 0)) (get_or numbers 1 (pos 0)) (get_or numbers 2 (pos 0)) (get_or numbers 3 (pos 0))

-- the numbers that words spell, if each spells one
abbrev pub with_number : Option ℤ → Option (List ℤ) → Option (List ℤ)
with_number None numbers = None
with_number (Some number) None = None
with_number (Some number) (Some numbers) = Some (number ∷ numbers)

abbrev pub numbers_of : List (List ℕ) → Option (List ℤ)
numbers_of [] = Some []
numbers_of (word ∷ words) = with_number (word_number word) (numbers_of words)

abbrev pub row_line : List ℕ → Option (List ℤ) → Option FlatLine
row_line (tag ∷ []) (Some numbers) = if is_letter tag && nat_le 1 (length numbers) && nat_le (length numbers) 4 then Some (row_of tag numbers) else None
row_line _ _ = None

-- the row of a letter, some numbers and further ones
abbrev pub row_with : ℕ → List ℤ → Option (List ℤ) → Option FlatLine
row_with tag before None = None
row_with tag before (Some numbers) = row_line (tag ∷ []) (Some (before ++ numbers))

abbrev pub head_line : FlatName → List (List ℕ) → Option FlatLine
head_line name (version ∷ word ∷ []) = if bytes_eq version (codes "1") && bytes_eq word (name_word name) then Some Head else None
head_line name _ = None

abbrev pub words_line : FlatName → List (List ℕ) → Option FlatLine
words_line name [] = None
words_line name (word ∷ []) = if bytes_eq word (codes "end") then Some End else None
words_line name (word ∷ next ∷ words) =
    if bytes_eq word (codes "certificate") then head_line name (next ∷ words) else row_line word (numbers_of (next ∷ words))

abbrev pub line_of : FlatName → List ℕ → Option FlatLine
line_of name bytes = words_line name (slice_split (λ byte. byte == 32) bytes)

-- ---- which lines may stand behind one another: a head, any rows, and an end
abbrev pub is_flat_end : FlatPlace → Bool
is_flat_end Ended = true
is_flat_end Start = false
is_flat_end Body = false

abbrev pub step_of : FlatPlace → FlatLine → Option FlatPlace
step_of Start Head = Some Body
step_of Body (Row tag count a b c e) = if has_numbers (Row tag count a b c e) then Some Body else None
step_of Body End = Some Ended
step_of _ _ = None

abbrev pub place_from : Option FlatPlace → List FlatLine → Option FlatPlace
place_from at lines = walk step_of at lines

abbrev pub place_after : List FlatLine → Option FlatPlace
place_after lines = place_from (Some Start) lines

abbrev pub IsRowLine : FlatLine → Type 0
IsRowLine (Row tag count a b c e) = has_numbers (Row tag count a b c e) ≡ true
IsRowLine Head = ⊥
IsRowLine End = ⊥

-- lines of a flat certificate: a head, rows with their numbers, and an end
abbrev pub AreRows : List FlatLine → Type 0
AreRows [] = Unit {0}
AreRows (line ∷ lines) = IsRowLine line × AreRows lines

abbrev pub IsWhole : List FlatLine → Type 0
IsWhole lines = (rows : List FlatLine) × AreRows rows × (lines ≡ Head ∷ rows ++ End ∷ [])

abbrev pub IsFront : List FlatLine → Type 0
IsFront lines = (more : List FlatLine) × IsWhole (lines ++ more)
