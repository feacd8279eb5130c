-- How the text of a line splits, that each line has one text, and how long that can be.
use Rattle.std.proofs.Common.{lit≤, ◌≡◌, ℕ, ◌+◌, ◌^◌, ◌≤◌, Bool, true, false, cond, ◌&&◌, List, [], ◌∷◌, ◌++◌, length, ℤ, pos, negsuc, Option, Some, None, ◌⊎◌, inl, inr, ⊎_elim, sym, refl, ap, ◌∙◌, subst, arith, append_assoc}
use Rattle.std.specs.Prelude.{◌==◌, unsigned_abs, codes, int_le, find}
use Rattle.std.specs.Fmt.{signed_decimal}
use Rattle.std.specs.List.{slice_split, join_with_byte}
use Rattle.std.specs.Str.{bytes_eq}
use Rattle.std.proofs.lemmas.Bool.{leb-true, false≢true}
use Rattle.std.proofs.lemmas.Option.{cond_some}
use Rattle.std.proofs.lemmas.List.{length-append}
use Rattle.std.proofs.lemmas.List.Splits.{slice_split_none, slice_split_at, join_with_byte-slice_split}
use Rattle.std.proofs.lemmas.List.Elements.{All-append}
use Rattle.std.proofs.lemmas.Slice.Eq.{bytes_eq-Decides}
use Rattle.decision_model.specs.declared.kinds.Kind.{Kind}
use Rattle.value_cert.specs.Grammar.{takes_discount, has_numbers}
use Rattle.decision_model.specs.Kind.{kind_word, all_kinds, kind_named}
use Rattle.value_cert.specs.CertFacts.{facts_of}
use Rattle.value_cert.specs.KindFacts.{one_is}
use Rattle.value_cert.specs.KindWords.{lacks, lacking, named}
use Rattle.value_cert.specs.Kinds.{has_certificates}
use Rattle.value_cert.specs.Lines.{number_word, head_words, line_words}
use Rattle.value_cert.specs.NumberFacts.{both, all_cons, number_without, number_length, small_from_whole, small_from_natural, whole_from_small, word_number-signed_decimal, signed_decimal-word_number}
use Rattle.value_cert.specs.Numbers.{is_natural, is_whole, is_discount, is_one}
use Rattle.value_cert.specs.Parsing.{word_number, certified, word_kind, plain_head, discount_head, one_number, two_numbers, three_numbers, words_line, line_of}
use Rattle.line_text.specs.LineWords.{IsWithout}
use Rattle.value_cert.specs.LineWords.{is_blank}
use Rattle.value_cert.specs.declared.line.CertLine.{CertLine}
use Rattle.value_cert.specs.declared.line.CertLine.TheVariants.{Head, Level, Order, Cost, Period, Value, Gain, Pair, Point, Echelon, Part, End}

-- one, two and three words
one_word : (a : List ℕ) → IsWithout 32 a → slice_split is_blank a ≡ a ∷ []
one_word a h = slice_split_none is_blank a h

two_words : (a b : List ℕ) → IsWithout 32 a → IsWithout 32 b → slice_split is_blank (a ++ 32 ∷ b) ≡ a ∷ b ∷ []
two_words a b h k = slice_split_at is_blank a 32 b h refl ∙ ap (λ (t : List (List ℕ)). a ∷ t) (one_word b k)

three_words : (a b c : List ℕ) → IsWithout 32 a → IsWithout 32 b → IsWithout 32 c → slice_split is_blank ((a ++ 32 ∷ b) ++ 32 ∷ c) ≡ a ∷ b ∷ c ∷ []
three_words a b c h k l =
    ap (slice_split is_blank) (append_assoc a (32 ∷ b) (32 ∷ c))
    ∙ slice_split_at is_blank a 32 (b ++ 32 ∷ c) h refl ∙ ap (λ (t : List (List ℕ)). a ∷ t) (two_words b c k l)

-- the same of numbers
one_numeral : (a : ℤ) → slice_split is_blank (signed_decimal a) ≡ signed_decimal a ∷ []
one_numeral a = one_word (signed_decimal a) (number_without 32 a (omega arith))

two_numerals : (a b : ℤ) → slice_split is_blank (signed_decimal a ++ 32 ∷ signed_decimal b) ≡ signed_decimal a ∷ signed_decimal b ∷ []
two_numerals a b = two_words (signed_decimal a) (signed_decimal b) (number_without 32 a (omega arith)) (number_without 32 b (omega arith))

three_numerals : (a b c : ℤ) → slice_split is_blank ((signed_decimal a ++ 32 ∷ signed_decimal b) ++ 32 ∷ signed_decimal c) ≡ signed_decimal a ∷ signed_decimal b ∷ signed_decimal c ∷ []
three_numerals a b c = three_words (signed_decimal a) (signed_decimal b) (signed_decimal c) (number_without 32 a (omega arith)) (number_without 32 b (omega arith)) (number_without 32 c (omega arith))

-- a natural number is whole
whole_from_natural : (z : ℤ) → is_natural z ≡ true → is_whole z ≡ true
whole_from_natural z h = whole_from_small z (small_from_natural z h)

-- the numbers of a discount are whole
discount_small : (num den : ℤ) → is_discount num den ≡ true → (unsigned_abs num ≤ 1000) × (unsigned_abs den ≤ 1000)
discount_small (pos n) (pos d) h =
    let low = both (int_le (pos 1) (pos n) && int_le (pos n) (pos d)) (int_le (pos d) (pos 1000)) h in
    let order = leb-true n d (both (int_le (pos 1) (pos n)) (int_le (pos n) (pos d)) low.0).1 in
    let most = leb-true d 1000 low.1 in
    (omega arith, omega arith)
discount_small (pos n) (negsuc d) h = absurd (false≢true (both (int_le (pos 1) (pos n)) (int_le (pos n) (negsuc d)) (both (int_le (pos 1) (pos n) && int_le (pos n) (negsuc d)) (int_le (negsuc d) (pos 1000)) h).0).1)
discount_small (negsuc n) den h = absurd (false≢true h)

true_or_false : (b : Bool) → (b ≡ true) ⊎ (b ≡ false)
true_or_false true = inl refl
true_or_false false = inr refl

-- the word of a kind that has certificates names it
word_kind-kind_word : (which : Kind) → has_certificates which ≡ true → word_kind (kind_word which) ≡ Some which
unfolding word_kind
word_kind-kind_word which h = rw ((named which).found, h) refl

-- a head without a discount
plain_words : (which : Kind) (num den : ℤ) → is_one num den ≡ true → takes_discount which num den ≡ true → line_of (head_words which num den) ≡ Some (Head which num den)
plain_words which num den one h =
    let is = one_is num den one in
    let P : ℤ → ℤ → Type 0 = λ n d. line_of (head_words which n d) ≡ Some (Head which n d) in
    let here : P (pos 1) (pos 1) = rw (one_word (kind_word which) (named which).one_word, word_kind-kind_word which ((facts_of which).plain num den h)) refl in
    let Q : ℤ → Type 0 = λ n. P n (pos 1) in
    let R : ℤ → Type 0 = λ d. P num d in
    subst R (sym is.1) (subst Q (sym is.0) here)

-- a head with a discount
discount_words : (which : Kind) (num den : ℤ) → is_one num den ≡ false → takes_discount which num den ≡ true → line_of (head_words which num den) ≡ Some (Head which num den)
discount_words which num den one h =
    let small = discount_small num den ((facts_of which).discount num den h) in
    let words = three_words (kind_word which) (signed_decimal num) (signed_decimal den) (named which).one_word (number_without 32 num (omega arith)) (number_without 32 den (omega arith)) in
    let kind = word_kind-kind_word which ((facts_of which).plain num den h) in
    let above = word_number-signed_decimal num (whole_from_small num (omega arith)) in
    let below = word_number-signed_decimal den (whole_from_small den (omega arith)) in
    rw one (rw (words, kind, above, below, one) refl)

-- the text of each line with numbers that may stand there spells that line
pub line_of-line_words : (line : CertLine) → has_numbers line ≡ true → line_of (line_words line) ≡ Some line
line_of-line_words (Head which num den) h =
    ⊎_elim (λ one. plain_words which num den one h) (λ other. discount_words which num den other h) (true_or_false (is_one num den))
line_of-line_words (Level a) h = rw (one_numeral a, word_number-signed_decimal a (whole_from_natural a h)) refl
line_of-line_words (Cost a) h = rw (one_numeral a, word_number-signed_decimal a (whole_from_natural a h)) refl
line_of-line_words (Period a) h = rw (one_numeral a, word_number-signed_decimal a (whole_from_natural a h)) refl
line_of-line_words (Order a b) h =
    let tests = both (is_natural a) (is_natural b) h in
    rw (two_numerals a b, word_number-signed_decimal a (whole_from_natural a tests.0), word_number-signed_decimal b (whole_from_natural b tests.1)) refl
line_of-line_words (Gain a b) h =
    let tests = both (is_natural a) (is_natural b) h in
    rw (two_numerals a b, word_number-signed_decimal a (whole_from_natural a tests.0), word_number-signed_decimal b (whole_from_natural b tests.1)) refl
line_of-line_words (Pair a b) h =
    let tests = both (is_whole a) (is_whole b) h in
    rw (two_numerals a b, word_number-signed_decimal a tests.0, word_number-signed_decimal b tests.1) refl
line_of-line_words (Echelon a b) h =
    let tests = both (is_natural a) (is_whole b) h in
    rw (two_numerals a b, word_number-signed_decimal a (whole_from_natural a tests.0), word_number-signed_decimal b tests.1) refl
line_of-line_words (Part a b) h =
    let tests = both (is_whole a) (is_whole b) h in
    rw (two_numerals a b, word_number-signed_decimal a tests.0, word_number-signed_decimal b tests.1) refl
line_of-line_words (Value a b c) h =
    let tests = both (is_whole a && is_whole b) (is_natural c) h in
    let front = both (is_whole a) (is_whole b) tests.0 in
    rw (three_numerals a b c, word_number-signed_decimal a front.0, word_number-signed_decimal b front.1, word_number-signed_decimal c (whole_from_natural c tests.1)) refl
line_of-line_words (Point a b c) h =
    let tests = both (is_whole a && is_natural b) (is_natural c) h in
    let front = both (is_whole a) (is_natural b) tests.0 in
    rw (three_numerals a b c, word_number-signed_decimal a front.0, word_number-signed_decimal b (whole_from_natural b front.1), word_number-signed_decimal c (whole_from_natural c tests.1)) refl
line_of-line_words End h = refl

same_choice : {A : Type 0} (b : Bool) (x : A) → cond b x x ≡ x
same_choice true x = refl
same_choice false x = refl

-- one of two was taken
taken : {A : Type 0} (b : Bool) (x y z : A) → cond b x y ≡ z → ((b ≡ true) × (x ≡ z)) ⊎ ((b ≡ false) × (y ≡ z))
taken true x y z h = inl (refl, h)
taken false x y z h = inr (refl, h)

-- a choice by a word: what holds of what is chosen by this word, and of another choice
by_word : {A : Type 0} (P : A → List ℕ → Type 0) (word text : List ℕ) (made : A) (other : Option A) (result : A) → cond (bytes_eq word text) (Some made) other ≡ Some result
    → P made text → (other ≡ Some result → P result word) → P result word
by_word {A} P word text made other result h here there =
    ⊎_elim (λ (t : (bytes_eq word text ≡ true) × (Some made ≡ Some result)).
    let same : made ≡ result = cc (t.1) in
    let Q : List ℕ → Type 0 = λ w. P result w in
    let R : A → Type 0 = λ r. P r text in
    subst Q (sym ((bytes_eq-Decides word text).0 t.0)) (subst R same here))
    (λ (t : (bytes_eq word text ≡ false) × (other ≡ Some result)). there t.1) (taken (bytes_eq word text) (Some made) other (Some result) h)

no_result : {A : Type 0} (result : A) (P : Type 0) → None ≡ Some result → P
no_result result P h = cc

-- a line spells the words that it was read from
abbrev Spells : CertLine → List (List ℕ) → Type 0
Spells line words = line_words line ≡ join_with_byte 32 words

bare_words : (tag : List ℕ) (line : CertLine) → words_line (tag ∷ []) ≡ Some line → Spells line (tag ∷ [])
bare_words tag line h =
    let P : CertLine → List ℕ → Type 0 = λ l t. Spells l (t ∷ []) in
    by_word P tag (codes "end") End None line h refl (no_result line (P line tag))

one_number_words : (tag : List ℕ) (a : ℤ) (line : CertLine) → one_number tag (Some a) ≡ Some line → Spells line (tag ∷ signed_decimal a ∷ [])
one_number_words tag a line h =
    let P : CertLine → List ℕ → Type 0 = λ l t. Spells l (t ∷ signed_decimal a ∷ []) in
    by_word P tag (codes "q") (Level a) _ line h refl (λ h.
    by_word P tag (codes "cost") (Cost a) _ line h refl (λ h.
    by_word P tag (codes "t") (Period a) None line h refl (no_result line (P line tag))))

two_number_words : (tag : List ℕ) (a b : ℤ) (line : CertLine) → two_numbers tag (Some a) (Some b) ≡ Some line → Spells line (tag ∷ signed_decimal a ∷ signed_decimal b ∷ [])
two_number_words tag a b line h =
    let P : CertLine → List ℕ → Type 0 = λ l t. Spells l (t ∷ signed_decimal a ∷ signed_decimal b ∷ []) in
    by_word P tag (codes "o") (Order a b) _ line h refl (λ h.
    by_word P tag (codes "g") (Gain a b) _ line h refl (λ h.
    by_word P tag (codes "s") (Pair a b) _ line h refl (λ h.
    by_word P tag (codes "e") (Echelon a b) _ line h refl (λ h.
    by_word P tag (codes "f") (Part a b) None line h refl (no_result line (P line tag))))))

three_number_words : (tag : List ℕ) (a b c : ℤ) (line : CertLine) → three_numbers tag (Some a) (Some b) (Some c) ≡ Some line
    → Spells line (tag ∷ signed_decimal a ∷ signed_decimal b ∷ signed_decimal c ∷ [])
three_number_words tag a b c line h =
    let P : CertLine → List ℕ → Type 0 = λ l t. Spells l (t ∷ signed_decimal a ∷ signed_decimal b ∷ signed_decimal c ∷ []) in
    let same = append_assoc (signed_decimal a) (32 ∷ signed_decimal b) (32 ∷ signed_decimal c) in
    by_word P tag (codes "v") (Value a b c) _ line h (ap (λ (t : List ℕ). 118 ∷ 32 ∷ t) same) (λ h.
    by_word P tag (codes "p") (Point a b c) None line h (ap (λ (t : List ℕ). 112 ∷ 32 ∷ t) same) (no_result line (P line tag)))

-- what is found passes the test
find_passes : (p : Kind → Bool) (kinds : List Kind) (which : Kind) → find p kinds ≡ Some which → p which ≡ true
find_passes p [] which h = cc
find_passes p (first ∷ kinds) which h = by (p first) refl h (find_passes p kinds which)
  where
    by : (passes : Bool) → p first ≡ passes → cond passes (Some first) (find p kinds) ≡ Some which → (find p kinds ≡ Some which → p which ≡ true) → p which ≡ true
    by true is found later = let same : first ≡ which = cc in subst (λ k. p k ≡ true) same is
    by false is found later = later found

-- a kind that has certificates was one before
certified_was : (x : Option Kind) (which : Kind) → certified x ≡ Some which → x ≡ Some which
certified_was None which h = no_result which (None ≡ Some which) h
certified_was (Some first) which h = ap Some (cond_some (has_certificates first) first which h).1

-- the word of a kind
kind_word-word_kind : (word : List ℕ) (which : Kind) → word_kind word ≡ Some which → kind_word which ≡ word
unfolding word_kind
kind_word-word_kind word which h =
    (bytes_eq-Decides (kind_word which) word).0 (find_passes (λ k. bytes_eq (kind_word k) word) all_kinds which (certified_was (kind_named word) which h))

plain_head_words : (version : List ℕ) (which : Kind) (line : CertLine) → plain_head version (Some which) ≡ Some line → Spells line (codes "certificate" ∷ version ∷ kind_word which ∷ [])
plain_head_words version which line h =
    let P : CertLine → List ℕ → Type 0 = λ l v. Spells l (codes "certificate" ∷ v ∷ kind_word which ∷ []) in
    by_word P version (codes "1") (Head which (pos 1) (pos 1)) None line h refl (no_result line (P line version))

discount_head_words : (version : List ℕ) (which : Kind) (num den : ℤ) (line : CertLine) → discount_head version (Some which) (Some num) (Some den) ≡ Some line
    → Spells line (codes "certificate" ∷ version ∷ kind_word which ∷ signed_decimal num ∷ signed_decimal den ∷ [])
discount_head_words version which num den line h =
    let P : CertLine → List ℕ → Type 0 = λ l v. Spells l (codes "certificate" ∷ v ∷ kind_word which ∷ signed_decimal num ∷ signed_decimal den ∷ []) in
    ⊎_elim (λ (one : is_one num den ≡ true).
    let never : discount_head version (Some which) (Some num) (Some den) ≡ None = rw one (same_choice (bytes_eq version (codes "2")) None) in
    no_result line (P line version) (sym never ∙ h))
    (λ (other : is_one num den ≡ false).
    let chosen : cond (bytes_eq version (codes "2")) (Some (Head which num den)) None ≡ Some line = rw other at h in
    by_word P version (codes "2") (Head which num den) None line chosen
    (rw other (ap (λ (t : List ℕ). codes "certificate 2 " ++ t) (append_assoc (kind_word which) (32 ∷ signed_decimal num) (32 ∷ signed_decimal den))))
    (no_result line (P line version)))
    (true_or_false (is_one num den))

one_words : (tag a : List ℕ) (x : Option ℤ) (line : CertLine) → word_number a ≡ x → one_number tag x ≡ Some line → Spells line (tag ∷ a ∷ [])
one_words tag a None line is h = no_result line (Spells line (tag ∷ a ∷ [])) h
one_words tag a (Some x) line is h =
    let P : List ℕ → Type 0 = λ w. Spells line (tag ∷ w ∷ []) in
    subst P (signed_decimal-word_number a x is).0 (one_number_words tag x line h)

two_words_line : (tag a b : List ℕ) (x y : Option ℤ) (line : CertLine) → word_number a ≡ x → word_number b ≡ y → two_numbers tag x y ≡ Some line → Spells line (tag ∷ a ∷ b ∷ [])
two_words_line tag a b None y line is iy h = no_result line (Spells line (tag ∷ a ∷ b ∷ [])) h
two_words_line tag a b (Some x) None line is iy h = no_result line (Spells line (tag ∷ a ∷ b ∷ [])) h
two_words_line tag a b (Some x) (Some y) line is iy h =
    let P : List ℕ → Type 0 = λ w. Spells line (tag ∷ w ∷ signed_decimal y ∷ []) in
    let Q : List ℕ → Type 0 = λ w. Spells line (tag ∷ a ∷ w ∷ []) in
    subst Q (signed_decimal-word_number b y iy).0 (subst P (signed_decimal-word_number a x is).0 (two_number_words tag x y line h))

three_words_line : (tag a b c : List ℕ) (x y z : Option ℤ) (line : CertLine) → word_number a ≡ x → word_number b ≡ y → word_number c ≡ z → three_numbers tag x y z ≡ Some line
    → Spells line (tag ∷ a ∷ b ∷ c ∷ [])
three_words_line tag a b c None y z line is iy iz h = no_result line (Spells line (tag ∷ a ∷ b ∷ c ∷ [])) h
three_words_line tag a b c (Some x) None z line is iy iz h = no_result line (Spells line (tag ∷ a ∷ b ∷ c ∷ [])) h
three_words_line tag a b c (Some x) (Some y) None line is iy iz h = no_result line (Spells line (tag ∷ a ∷ b ∷ c ∷ [])) h
three_words_line tag a b c (Some x) (Some y) (Some z) line is iy iz h =
    let P : List ℕ → Type 0 = λ w. Spells line (tag ∷ w ∷ signed_decimal y ∷ signed_decimal z ∷ []) in
    let Q : List ℕ → Type 0 = λ w. Spells line (tag ∷ a ∷ w ∷ signed_decimal z ∷ []) in
    let R : List ℕ → Type 0 = λ w. Spells line (tag ∷ a ∷ b ∷ w ∷ []) in
    subst R (signed_decimal-word_number c z iz).0 (subst Q (signed_decimal-word_number b y iy).0 (subst P (signed_decimal-word_number a x is).0 (three_number_words tag x y z line h)))

plain_line : (version word : List ℕ) (which : Option Kind) (line : CertLine) → word_kind word ≡ which → plain_head version which ≡ Some line → Spells line (codes "certificate" ∷ version ∷ word ∷ [])
plain_line version word None line is h = no_result line (Spells line (codes "certificate" ∷ version ∷ word ∷ [])) h
plain_line version word (Some which) line is h =
    let P : List ℕ → Type 0 = λ w. Spells line (codes "certificate" ∷ version ∷ w ∷ []) in
    subst P (kind_word-word_kind word which is) (plain_head_words version which line h)

discount_line : (version word a b : List ℕ) (which : Option Kind) (x y : Option ℤ) (line : CertLine) → word_kind word ≡ which → word_number a ≡ x → word_number b ≡ y
    → discount_head version which x y ≡ Some line → Spells line (codes "certificate" ∷ version ∷ word ∷ a ∷ b ∷ [])
discount_line version word a b None x y line ik is iy h = no_result line (Spells line (codes "certificate" ∷ version ∷ word ∷ a ∷ b ∷ [])) h
discount_line version word a b (Some which) None y line ik is iy h = no_result line (Spells line (codes "certificate" ∷ version ∷ word ∷ a ∷ b ∷ [])) h
discount_line version word a b (Some which) (Some x) None line ik is iy h = no_result line (Spells line (codes "certificate" ∷ version ∷ word ∷ a ∷ b ∷ [])) h
discount_line version word a b (Some which) (Some x) (Some y) line ik is iy h =
    let P : List ℕ → Type 0 = λ w. Spells line (codes "certificate" ∷ version ∷ w ∷ signed_decimal x ∷ signed_decimal y ∷ []) in
    let Q : List ℕ → Type 0 = λ w. Spells line (codes "certificate" ∷ version ∷ word ∷ w ∷ signed_decimal y ∷ []) in
    let R : List ℕ → Type 0 = λ w. Spells line (codes "certificate" ∷ version ∷ word ∷ a ∷ w ∷ []) in
    subst R (signed_decimal-word_number b y iy).0 (subst Q (signed_decimal-word_number a x is).0 (subst P (kind_word-word_kind word which ik) (discount_head_words version which x y line h)))

-- the words of a line are those that it was read from
words_line-spells : (words : List (List ℕ)) (line : CertLine) → words_line words ≡ Some line → Spells line words
words_line-spells [] line h = no_result line (Spells line []) h
words_line-spells (tag ∷ []) line h = bare_words tag line h
words_line-spells (tag ∷ a ∷ []) line h = one_words tag a (word_number a) line refl h
words_line-spells (tag ∷ a ∷ b ∷ []) line h =
    let P : List ℕ → Type 0 = λ t. Spells line (t ∷ a ∷ b ∷ []) in
    let head = plain_head a (word_kind b) in
    let numbers = two_numbers tag (word_number a) (word_number b) in
    ⊎_elim (λ (t : (bytes_eq tag (codes "certificate") ≡ true) × (head ≡ Some line)).
    subst P (sym ((bytes_eq-Decides tag (codes "certificate")).0 t.0)) (plain_line a b (word_kind b) line refl t.1))
    (λ (t : (bytes_eq tag (codes "certificate") ≡ false) × (numbers ≡ Some line)). two_words_line tag a b (word_number a) (word_number b) line refl refl t.1)
    (taken (bytes_eq tag (codes "certificate")) head numbers (Some line) h)
words_line-spells (tag ∷ a ∷ b ∷ c ∷ []) line h = three_words_line tag a b c (word_number a) (word_number b) (word_number c) line refl refl refl h
words_line-spells (tag ∷ a ∷ b ∷ c ∷ d ∷ []) line h =
    let P : List ℕ → Type 0 = λ t. Spells line (t ∷ a ∷ b ∷ c ∷ d ∷ []) in
    let head = discount_head a (word_kind b) (word_number c) (word_number d) in
    ⊎_elim (λ (t : (bytes_eq tag (codes "certificate") ≡ true) × (head ≡ Some line)).
    subst P (sym ((bytes_eq-Decides tag (codes "certificate")).0 t.0)) (discount_line a b c d (word_kind b) (word_number c) (word_number d) line refl refl refl t.1))
    (λ (t : (bytes_eq tag (codes "certificate") ≡ false) × (None ≡ Some line)). no_result line (Spells line (tag ∷ a ∷ b ∷ c ∷ d ∷ [])) t.1)
    (taken (bytes_eq tag (codes "certificate")) head None (Some line) h)
words_line-spells (tag ∷ a ∷ b ∷ c ∷ d ∷ e ∷ words) line h = no_result line (Spells line (tag ∷ a ∷ b ∷ c ∷ d ∷ e ∷ words)) h

-- bytes that spell a line are its words
pub line_words-line_of : (bytes : List ℕ) (line : CertLine) → line_of bytes ≡ Some line → line_words line ≡ bytes
line_words-line_of bytes line h = words_line-spells (slice_split is_blank bytes) line h ∙ join_with_byte-slice_split 32 bytes

-- no line's words hold a line feed
without_append : (xs ys : List ℕ) → IsWithout 10 xs → IsWithout 10 ys → IsWithout 10 (xs ++ ys)
without_append xs ys h k = All-append (λ b. (b == 10) ≡ false) xs ys h k

word_without : (z : ℤ) → IsWithout 10 (number_word z)
word_without z = all_cons (λ b. (b == 10) ≡ false) 32 (signed_decimal z) refl (number_without 10 z (omega arith))

head_without : (which : Kind) (num den : ℤ) (b : Bool)
    → IsWithout 10 (cond b (codes "certificate 1 " ++ kind_word which) (codes "certificate 2 " ++ kind_word which ++ number_word num ++ number_word den))
head_without which num den true = without_append (codes "certificate 1 ") (kind_word which) (lacking 10 (codes "certificate 1 ") refl) (named which).one_line
head_without which num den false =
    without_append (codes "certificate 2 " ++ kind_word which ++ number_word num) (number_word den)
    (without_append (codes "certificate 2 " ++ kind_word which) (number_word num)
    (without_append (codes "certificate 2 ") (kind_word which) (lacking 10 (codes "certificate 2 ") refl) (named which).one_line) (word_without num)) (word_without den)

one_without : (tag : List ℕ) (a : ℤ) → lacks 10 tag ≡ true → IsWithout 10 (tag ++ number_word a)
one_without tag a h = without_append tag (number_word a) (lacking 10 tag h) (word_without a)

two_without : (tag : List ℕ) (a b : ℤ) → lacks 10 tag ≡ true → IsWithout 10 (tag ++ number_word a ++ number_word b)
two_without tag a b h = without_append (tag ++ number_word a) (number_word b) (one_without tag a h) (word_without b)

three_without : (tag : List ℕ) (a b c : ℤ) → lacks 10 tag ≡ true → IsWithout 10 (tag ++ number_word a ++ number_word b ++ number_word c)
three_without tag a b c h = without_append (tag ++ number_word a ++ number_word b) (number_word c) (two_without tag a b h) (word_without c)

pub line_words-without : (line : CertLine) → IsWithout 10 (line_words line)
line_words-without (Head which num den) = head_without which num den (is_one num den)
line_words-without (Level a) = one_without (codes "q") a refl
line_words-without (Order a b) = two_without (codes "o") a b refl
line_words-without (Cost a) = one_without (codes "cost") a refl
line_words-without (Period a) = one_without (codes "t") a refl
line_words-without (Value a b c) = three_without (codes "v") a b c refl
line_words-without (Gain a b) = two_without (codes "g") a b refl
line_words-without (Pair a b) = two_without (codes "s") a b refl
line_words-without (Point a b c) = three_without (codes "p") a b c refl
line_words-without (Echelon a b) = two_without (codes "e") a b refl
line_words-without (Part a b) = two_without (codes "f") a b refl
line_words-without End = lacking 10 (codes "end") refl

-- a line with numbers that may stand there is short: with its line feed it has fewer than 128 bytes
word_length : (z : ℤ) → unsigned_abs z ≤ 2 ^ 120 → length (number_word z) ≤ 39
word_length z h = omega (arith, number_length z h)

one_length : (tag : List ℕ) (a : ℤ) → unsigned_abs a ≤ 2 ^ 120 → length (tag ++ number_word a) ≤ length tag + 39
one_length tag a h = omega (arith, length-append tag (number_word a), word_length a h)

two_length : (tag : List ℕ) (a b : ℤ) → unsigned_abs a ≤ 2 ^ 120 → unsigned_abs b ≤ 2 ^ 120 → length (tag ++ number_word a ++ number_word b) ≤ length tag + 78
two_length tag a b h k = omega (arith, length-append (tag ++ number_word a) (number_word b), one_length tag a h, word_length b k)

three_length : (tag : List ℕ) (a b c : ℤ) → unsigned_abs a ≤ 2 ^ 120 → unsigned_abs b ≤ 2 ^ 120 → unsigned_abs c ≤ 2 ^ 120
    → length (tag ++ number_word a ++ number_word b ++ number_word c) ≤ length tag + 117
three_length tag a b c h k l = omega (arith, length-append (tag ++ number_word a ++ number_word b) (number_word c), two_length tag a b h k, word_length c l)

head_length : (which : Kind) (num den : ℤ) (b : Bool) → unsigned_abs num ≤ 2 ^ 120 → unsigned_abs den ≤ 2 ^ 120
    → length (cond b (codes "certificate 1 " ++ kind_word which) (codes "certificate 2 " ++ kind_word which ++ number_word num ++ number_word den)) ≤ 126
head_length which num den true h k = omega (arith, length-append (codes "certificate 1 ") (kind_word which), (named which).short)
head_length which num den false h k =
    omega (arith, two_length (codes "certificate 2 " ++ kind_word which) num den h k, length-append (codes "certificate 2 ") (kind_word which), (named which).short)

pub length-line_words : (line : CertLine) → has_numbers line ≡ true → length (line_words line) ≤ 126
length-line_words (Head which num den) h =
    let small = discount_small num den ((facts_of which).discount num den h) in
    head_length which num den (is_one num den) (omega arith) (omega arith)
length-line_words (Level a) h = omega (arith, one_length (codes "q") a (small_from_natural a h))
length-line_words (Cost a) h = omega (arith, one_length (codes "cost") a (small_from_natural a h))
length-line_words (Period a) h = omega (arith, one_length (codes "t") a (small_from_natural a h))
length-line_words (Order a b) h =
    let tests = both (is_natural a) (is_natural b) h in
    omega (arith, two_length (codes "o") a b (small_from_natural a tests.0) (small_from_natural b tests.1))
length-line_words (Gain a b) h =
    let tests = both (is_natural a) (is_natural b) h in
    omega (arith, two_length (codes "g") a b (small_from_natural a tests.0) (small_from_natural b tests.1))
length-line_words (Pair a b) h =
    let tests = both (is_whole a) (is_whole b) h in
    omega (arith, two_length (codes "s") a b (small_from_whole a tests.0) (small_from_whole b tests.1))
length-line_words (Echelon a b) h =
    let tests = both (is_natural a) (is_whole b) h in
    omega (arith, two_length (codes "e") a b (small_from_natural a tests.0) (small_from_whole b tests.1))
length-line_words (Part a b) h =
    let tests = both (is_whole a) (is_whole b) h in
    omega (arith, two_length (codes "f") a b (small_from_whole a tests.0) (small_from_whole b tests.1))
length-line_words (Value a b c) h =
    let tests = both (is_whole a && is_whole b) (is_natural c) h in
    let front = both (is_whole a) (is_whole b) tests.0 in
    omega (arith, three_length (codes "v") a b c (small_from_whole a front.0) (small_from_whole b front.1) (small_from_natural c tests.1))
length-line_words (Point a b c) h =
    let tests = both (is_whole a && is_natural b) (is_natural c) h in
    let front = both (is_whole a) (is_natural b) tests.0 in
    omega (arith, three_length (codes "p") a b c (small_from_whole a front.0) (small_from_natural b front.1) (small_from_natural c tests.1))
length-line_words End h = lit≤ tt
