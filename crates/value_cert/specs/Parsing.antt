-- The line that bytes spell. The line feed behind them is not among them.
use Rattle.std.specs.Prelude.{ℕ, List, [], ◌∷◌, codes, ◌==◌, ◌&&◌, if◌then◌else◌, ℤ, pos, Option, Some, None}
use Rattle.std.specs.Fmt.{signed_decimal}
use Rattle.std.specs.List.{slice_split}
use Rattle.std.specs.Str.{bytes_eq}
use Rattle.std.specs.Str.Parse.{signed_digits_value}
use Rattle.decision_model.specs.Kind.{kind_named}
use Rattle.decision_model.specs.declared.kinds.Kind.{Kind}
use Rattle.value_cert.specs.Kinds.{has_certificates}
use Rattle.value_cert.specs.Numbers.{is_one, is_whole}
use Rattle.value_cert.specs.declared.line.CertLine.{CertLine}
use Rattle.value_cert.specs.declared.line.CertLine.TheVariants.{Head, Level, Order, Cost, Period, Value, Gain, Pair, Point, Echelon, Part, End}

-- the number that a word spells, which is at most 2^120 in size: in decimal, with no zero or plus before it
abbrev pub word_number : List ℕ → Option ℤ
word_number word = let number = signed_digits_value 10 word in
    if bytes_eq word (signed_decimal number) && is_whole number then Some number else None

-- a kind where it has certificates
abbrev pub certified : Option Kind → Option Kind
certified None = None
certified (Some kind) = if has_certificates kind then Some kind else None

-- the kind with certificates that a word names
unfoldable pub word_kind : List ℕ → Option Kind
word_kind word = certified (kind_named word)

-- the head without a discount
abbrev pub plain_head : List ℕ → Option Kind → Option CertLine
plain_head version None = None
plain_head version (Some kind) = if bytes_eq version (codes "1") then Some (Head kind (pos 1) (pos 1)) else None

-- the head with a discount, which isn't 1/1
abbrev pub discount_head : List ℕ → Option Kind → Option ℤ → Option ℤ → Option CertLine
discount_head version (Some kind) (Some num) (Some den) =
    if bytes_eq version (codes "2") then (if is_one num den then None else Some (Head kind num den)) else None
discount_head version _ _ _ = None

-- a line of one number
abbrev pub one_number : List ℕ → Option ℤ → Option CertLine
one_number tag None = None
one_number tag (Some a) =
    if bytes_eq tag (codes "q") then Some (Level a)
    else (if bytes_eq tag (codes "cost") then Some (Cost a)
    else (if bytes_eq tag (codes "t") then Some (Period a) else None))

-- a line of two numbers
abbrev pub two_numbers : List ℕ → Option ℤ → Option ℤ → Option CertLine
two_numbers tag (Some a) (Some b) =
    if bytes_eq tag (codes "o") then Some (Order a b)
    else (if bytes_eq tag (codes "g") then Some (Gain a b)
    else (if bytes_eq tag (codes "s") then Some (Pair a b)
    else (if bytes_eq tag (codes "e") then Some (Echelon a b)
    else (if bytes_eq tag (codes "f") then Some (Part a b) else None))))
two_numbers tag _ _ = None

-- a line of three numbers
abbrev pub three_numbers : List ℕ → Option ℤ → Option ℤ → Option ℤ → Option CertLine
three_numbers tag (Some a) (Some b) (Some c) =
    if bytes_eq tag (codes "v") then Some (Value a b c)
    else (if bytes_eq tag (codes "p") then Some (Point a b c) else None)
three_numbers tag _ _ _ = None

-- the line of a word and those behind it
abbrev pub words_line : List (List ℕ) → Option CertLine
words_line (tag ∷ []) = if bytes_eq tag (codes "end") then Some End else None
words_line (tag ∷ a ∷ []) = one_number tag (word_number a)
words_line (tag ∷ a ∷ b ∷ []) =
    if bytes_eq tag (codes "certificate") then plain_head a (word_kind b) else two_numbers tag (word_number a) (word_number b)
words_line (tag ∷ a ∷ b ∷ c ∷ []) = three_numbers tag (word_number a) (word_number b) (word_number c)
words_line (tag ∷ version ∷ kind ∷ num ∷ den ∷ []) =
    if bytes_eq tag (codes "certificate") then discount_head version (word_kind kind) (word_number num) (word_number den) else None
words_line _ = None

-- one blank stands between two words
abbrev pub line_of : List ℕ → Option CertLine
line_of bytes = words_line (slice_split (λ byte. byte == 32) bytes)
