-- The text of each line of a certificate: its words with one blank between two of them, and a line feed.
use Rattle.std.specs.Prelude.{ℕ, List, [], ◌∷◌, ◌++◌, codes, ℤ, if◌then◌else◌}
use Rattle.std.specs.Fmt.{signed_decimal}
use Rattle.decision_model.specs.Kind.{kind_word}
use Rattle.decision_model.specs.declared.kinds.Kind.{Kind}
use Rattle.value_cert.specs.Numbers.{is_one}
use Rattle.value_cert.specs.declared.line.CertLine.{CertLine}
use Rattle.value_cert.specs.declared.line.CertLine.TheVariants.{Head, Level, Order, Cost, Period, Value, Gain, Pair, Point, Echelon, Part, End}

-- a number behind a blank
abbrev pub number_word : ℤ → List ℕ
number_word number = 32 ∷ signed_decimal number

-- the words of a head: the second spelling has a discount
abbrev pub head_words : Kind → ℤ → ℤ → List ℕ
head_words kind num den =
    if is_one num den then codes "certificate 1 " ++ kind_word kind
    else codes "certificate 2 " ++ kind_word kind ++ number_word num ++ number_word den

-- the words of a line
abbrev pub line_words : CertLine → List ℕ
line_words (Head kind num den) = head_words kind num den
line_words (Level level) = codes "q" ++ number_word level
line_words (Order order dual) = codes "o" ++ number_word order ++ number_word dual
line_words (Cost cost) = codes "cost" ++ number_word cost
line_words (Period period) = codes "t" ++ number_word period
line_words (Value at to value) = codes "v" ++ number_word at ++ number_word to ++ number_word value
line_words (Gain num den) = codes "g" ++ number_word num ++ number_word den
line_words (Pair low high) = codes "s" ++ number_word low ++ number_word high
line_words (Point at lower upper) = codes "p" ++ number_word at ++ number_word lower ++ number_word upper
line_words (Echelon echelon level) = codes "e" ++ number_word echelon ++ number_word level
line_words (Part at value) = codes "f" ++ number_word at ++ number_word value
line_words End = codes "end"

-- the text of a line
abbrev pub line_text : CertLine → List ℕ
line_text line = line_words line ++ 10 ∷ []
