-- The words of the numbers of certificates: their bytes, their length, and that each word spells one number.
use Rattle.std.proofs.Common.{◌≡◌, ℕ, zero, suc, ◌+◌, ◌*◌, ◌/◌, ◌%◌, ◌^◌, ◌<◌, ◌≤◌, Bool, true, false, cond, eqb, ltb, leb, ◌&&◌, List, [], ◌∷◌, ◌++◌, length, get_or, ℤ, pos, negsuc, neg_ℤ, Some, None, ◌⊎◌, inl, inr, ⊎_elim, sym, refl, ap, ◌∙◌, subst, arith, append_assoc, append-nil}
use Rattle.std.specs.Prelude.{unsigned_abs, All, slice_index}
use Rattle.std.specs.Char.{digit_value}
use Rattle.std.specs.Fmt.{decimal, signed_decimal, digits, digits_onto, digit_glyph}
use Rattle.std.specs.Int.{IsInRange}
use Rattle.std.specs.Str.{IsAscii, bytes_eq}
use Rattle.std.specs.Str.Parse.{AllDigits, IsNumeral, digits_value, digits_value_after, signed_digits_value, starts_with_minus, without_leading_sign}
use Rattle.std.proofs.lemmas.Bool.{leb-true, le-leb, false≢true}
use Rattle.std.proofs.lemmas.Fmt.{decimal_is_IsNumeral_wide, decimal_step_wide, decimal_by_steps_wide, length-decimal-le_wide, decimal_digit, IsAscii-from_digits}
use Rattle.std.proofs.lemmas.List.{length-append}
use Rattle.std.proofs.Math.ListN.{get_or-append}
use Rattle.std.proofs.lemmas.Option.{cond_some}
use Rattle.std.proofs.lemmas.Slice.Eq.{bytes_eq-Decides}
use Rattle.std.proofs.lemmas.Str.{digit_value_digit}
use Rattle.std.proofs.lemmas.Str.Ascii.{IsAscii-cons}
use Rattle.std.proofs.lemmas.Str.Parse.{digit_from_value}
use borrow.Author.Tests.{ltb-true, lt-ltb, eqb-true, ne_eqb}
use Rattle.value_cert.specs.Numbers.{is_natural, is_whole}
use Rattle.value_cert.specs.Parsing.{word_number}
use Rattle.line_text.specs.LineWords.{IsWithout}
use Rattle.value_cert.specs.LineWords.{is_leading_digit, is_plain}

-- both tests are passed
pub both : (a b : Bool) → (a && b) ≡ true → (a ≡ true) × (b ≡ true)
both true b h = (refl, h)
both false b h = absurd (false≢true h)

-- one more byte
pub all_cons : (P : ℕ → Type 0) (x : ℕ) (xs : List ℕ) → P x → All P xs → All P (x ∷ xs)
all_cons P x xs here rest zero d l = here
all_cons P x xs here rest (suc k) d l = rest k d (omega arith)

pub all_none : (P : ℕ → Type 0) → All P []
all_none P k d l = absurd (omega arith)

-- the bytes of a number are digits, or a minus
abbrev pub IsNumberByte : ℕ → Type 0
IsNumberByte byte = 44 < byte

glyph_bytes : (n : ℕ) → IsNumberByte (digit_glyph false (n % 10))
glyph_bytes n = let test : ltb (n % 10) 10 ≡ true = lt-ltb (n % 10) 10 (omega arith) in rw test (omega arith)

onto_bytes : (k n : ℕ) (acc : List ℕ) → All IsNumberByte acc → All IsNumberByte (digits_onto k 10 false n acc)
onto_bytes zero n acc h = h
onto_bytes (suc k) n acc h =
    let more : All IsNumberByte (digit_glyph false (n % 10) ∷ acc) = all_cons IsNumberByte (digit_glyph false (n % 10)) acc (glyph_bytes n) h in
    elim (eqb (n / 10) 0) as (λ b. All IsNumberByte (cond b (digit_glyph false (n % 10) ∷ acc) (digits_onto k 10 false (n / 10) (digit_glyph false (n % 10) ∷ acc))))
    [ true ↦ more | false ↦ onto_bytes k (n / 10) (digit_glyph false (n % 10) ∷ acc) more ]

decimal_bytes : (n : ℕ) → All IsNumberByte (decimal n)
unfolding digits
decimal_bytes n = onto_bytes 64 n [] (all_none IsNumberByte)

-- the bytes of a number
pub number_bytes : (z : ℤ) → All IsNumberByte (signed_decimal z)
number_bytes (pos n) = decimal_bytes n
number_bytes (negsuc n) = all_cons IsNumberByte 45 (decimal (suc n)) (omega arith) (decimal_bytes (suc n))

-- a number holds no byte below its own, as a blank or a line feed
pub number_without : (byte : ℕ) (z : ℤ) → byte < 45 → IsWithout byte (signed_decimal z)
number_without byte z small k d l =
    let above : 44 < get_or (signed_decimal z) k d = number_bytes z k d l in
    ne_eqb (get_or (signed_decimal z) k d) byte (omega arith)

-- numbers of certificates are small
pub small_from_whole : (z : ℤ) → is_whole z ≡ true → unsigned_abs z ≤ 2 ^ 120
small_from_whole z h = leb-true (unsigned_abs z) (2 ^ 120) h

pub small_from_natural : (z : ℤ) → is_natural z ≡ true → unsigned_abs z ≤ 2 ^ 120
small_from_natural (pos n) h = leb-true n (2 ^ 120) (both _ _ h).1
small_from_natural (negsuc n) h = absurd (false≢true h)

pub whole_from_small : (z : ℤ) → unsigned_abs z ≤ 2 ^ 120 → is_whole z ≡ true
whole_from_small z h = le-leb (unsigned_abs z) (2 ^ 120) h

-- the length of a number
pub number_length : (z : ℤ) → unsigned_abs z ≤ 2 ^ 120 → length (signed_decimal z) ≤ 38
number_length (pos n) h = omega (arith, length-decimal-le_wide 37 n (omega arith) (omega arith) (omega arith))
number_length (negsuc n) h = omega (arith, length-decimal-le_wide 37 (suc n) (omega arith) (omega arith) (omega arith))

-- the first digit of a number that isn't 0
first_digit : (n : ℕ) → 0 < n → n < 10 ^ 64 → 48 < get_or (decimal n) 0 0
first_digit n some small = (decimal_by_steps_wide (λ m ds. (0 < length ds) × (0 < m → 48 < get_or ds 0 0)) (λ m l. (omega arith, λ a. omega arith))
    (λ m ds l h. (omega (arith, length-append ds ((48 + m % 10) ∷ [])), λ a. omega (arith, get_or-append ds ((48 + m % 10) ∷ []) 0 0 h.0, h.1 (omega arith)))) n small).1 some

-- digits that no zero stands before are those of their value
le_value_after : (n : ℕ) (ds : List ℕ) → n ≤ digits_value_after 10 n ds
le_value_after n [] = omega arith
le_value_after n (c ∷ cs) = omega (arith, le_value_after (n * 10 + digit_value c) cs)

decimal_after : (n : ℕ) (ds : List ℕ) → 0 < n → AllDigits 10 ds → digits_value_after 10 n ds < 10 ^ 64 → decimal (digits_value_after 10 n ds) ≡ decimal n ++ ds
decimal_after n [] some d small = sym (append-nil (decimal n))
decimal_after n (c ∷ cs) some d small =
    let m : ℕ = n * 10 + digit_value c in
    let k = digit_value_digit c (digit_from_value c d.0) in
    let front : m / 10 ≡ n = omega (arith, d.0) in
    let end : 48 + m % 10 ≡ c = omega (arith, d.0) in
    decimal_after m cs (omega arith) d.1 small
    ∙ ap (λ x. x ++ cs) (decimal_step_wide m (omega arith) (omega (arith, le_value_after m cs)) ∙ (λ i. decimal (front i) ++ (end i ∷ [])))
    ∙ append_assoc (decimal n) (c ∷ []) cs

decimal_value : (ds : List ℕ) → AllDigits 10 ds → 0 < length ds → (get_or ds 0 0 ≡ 48 → length ds ≡ 1) → digits_value 10 ds < 10 ^ 64 → decimal (digits_value 10 ds) ≡ ds
decimal_value [] d some lead small = absurd (omega arith)
decimal_value (c ∷ []) d some lead small =
    let k = digit_value_digit c (digit_from_value c d.0) in
    decimal_digit (0 * 10 + digit_value c) (omega (arith, d.0)) ∙ ap (λ x. x ∷ []) (omega arith)
decimal_value (c ∷ e ∷ cs) d some lead small =
    let k = digit_value_digit c (digit_from_value c d.0) in
    let no : c ≡ 48 → ⊥ = λ z. omega (arith, lead z) in
    let is : 48 + (0 * 10 + digit_value c) ≡ c = omega arith in
    decimal_after (0 * 10 + digit_value c) (e ∷ cs) (omega arith) d.1 small
    ∙ ap (λ x. x ++ (e ∷ cs)) (decimal_digit (0 * 10 + digit_value c) (omega (arith, d.0)) ∙ ap (λ x. x ∷ []) is)

-- a word with no sign before it is its digits
pub unsigned_word : (word : List ℕ) → starts_with_minus word ≡ false → eqb (slice_index word 0) 43 ≡ false → (without_leading_sign word ≡ word) × (signed_digits_value 10 word ≡ pos (digits_value 10 word))
unsigned_word word no_minus no_plus = (rw (no_minus, no_plus) refl, rw (no_minus, no_plus) refl)

-- digits have no sign
unsigned_digits : (ds : List ℕ) → IsNumeral 10 ds → (without_leading_sign ds ≡ ds) × (signed_digits_value 10 ds ≡ pos (digits_value 10 ds))
unsigned_digits [] h = absurd (omega (arith, h.0))
unsigned_digits (c ∷ cs) h =
    let range : IsInRange 48 57 c = digit_from_value c h.1.0 in
    unsigned_word (c ∷ cs) (ne_eqb c 45 (omega arith)) (ne_eqb c 43 (omega arith))

-- what is known of a word that is the text of a number
pub record IsNumberWord (word : List ℕ) (z : ℤ) : Type 0 where
  pub value : signed_digits_value 10 word ≡ z
  pub numeral : IsNumeral 10 (without_leading_sign word)
  pub plain : is_plain word ≡ true
  pub ascii : IsAscii word

plain_digits : (ds : List ℕ) → IsNumeral 10 ds → (48 < get_or ds 0 0) ⊎ (length ds ≡ 1) → is_plain ds ≡ true
plain_digits [] h lead = absurd (omega (arith, h.0))
plain_digits (c ∷ []) h lead =
    let range : IsInRange 48 57 c = digit_from_value c h.1.0 in
    let low : leb 48 c ≡ true = le-leb 48 c (omega arith) in
    let high : leb c 57 ≡ true = le-leb c 57 (omega arith) in
    rw (low, high) refl
plain_digits (c ∷ e ∷ cs) h lead =
    let range : IsInRange 48 57 c = digit_from_value c h.1.0 in
    let no_minus : eqb c 45 ≡ false = ne_eqb c 45 (omega arith) in
    let low : ltb 48 c ≡ true = lt-ltb 48 c (omega arith) in
    let high : leb c 57 ≡ true = le-leb c 57 (omega arith) in
    rw (no_minus, low, high) refl

minus_plain : (ds : List ℕ) → IsNumeral 10 ds → 48 < get_or ds 0 0 → is_plain (45 ∷ ds) ≡ true
minus_plain [] h lead = absurd (omega (arith, h.0))
minus_plain (c ∷ cs) h lead =
    let range : IsInRange 48 57 c = digit_from_value c h.1.0 in
    let low : ltb 48 c ≡ true = lt-ltb 48 c (omega arith) in
    let high : leb c 57 ≡ true = le-leb c 57 (omega arith) in
    rw (low, high) refl

pub number_word_is : (z : ℤ) → unsigned_abs z ≤ 2 ^ 120 → IsNumberWord (signed_decimal z) z
number_word_is (pos n) small =
    let facts = decimal_is_IsNumeral_wide n (omega arith) in
    let alone = unsigned_digits (decimal n) facts.0 in
    let lead : (48 < get_or (decimal n) 0 0) ⊎ (length (decimal n) ≡ 1) = elim n as (λ m. m ≤ 2 ^ 120 → (48 < get_or (decimal m) 0 0) ⊎ (length (decimal m) ≡ 1)) [ zero ↦ λ s. inr (ap length (decimal_digit 0 (omega arith))) | suc m ↦ λ s. inl (first_digit (suc m) (omega arith) (omega arith)) ] small in
    let P : List ℕ → Type 0 = IsNumeral 10 in
    record {
      value = alone.1 ∙ ap pos facts.1;
      numeral = subst P (sym alone.0) facts.0;
      plain = plain_digits (decimal n) facts.0 lead;
      ascii = IsAscii-from_digits (decimal n) facts.0.1;
    }
number_word_is (negsuc n) small =
    let facts = decimal_is_IsNumeral_wide (suc n) (omega arith) in
    record {
      value = ap (λ m. neg_ℤ (pos m)) facts.1;
      numeral = facts.0;
      plain = minus_plain (decimal (suc n)) facts.0 (first_digit (suc n) (omega arith) (omega arith));
      ascii = IsAscii-cons 45 (decimal (suc n)) (omega arith) (IsAscii-from_digits (decimal (suc n)) facts.0.1);
    }

-- the text of a number spells it
pub word_number-signed_decimal : (z : ℤ) → is_whole z ≡ true → word_number (signed_decimal z) ≡ Some z
word_number-signed_decimal z whole =
    let facts = number_word_is z (small_from_whole z whole) in
    let same : bytes_eq (signed_decimal z) (signed_decimal z) ≡ true = (bytes_eq-Decides (signed_decimal z) (signed_decimal z)).1 refl in
    rw facts.value (rw (same, whole) refl)

-- what spells a number is its text
pub signed_decimal-word_number : (word : List ℕ) (z : ℤ) → word_number word ≡ Some z → (signed_decimal z ≡ word) × (is_whole z ≡ true)
signed_decimal-word_number word z h =
    let number = signed_digits_value 10 word in
    let found = cond_some (bytes_eq word (signed_decimal number) && is_whole number) number z h in
    let tests = both (bytes_eq word (signed_decimal number)) (is_whole number) found.0 in
    let P : ℤ → Type 0 = λ n. (signed_decimal n ≡ word) × (is_whole n ≡ true) in
    subst P found.1 (sym ((bytes_eq-Decides word (signed_decimal number)).0 tests.0), tests.1)

-- a minus and digits are the text of what they spell
minus_text : (v : ℕ) (ds : List ℕ) → 48 < get_or ds 0 0 → decimal v ≡ ds → signed_decimal (neg_ℤ (pos v)) ≡ 45 ∷ ds
minus_text zero ds lead same = absurd (omega (arith, lead, ap (λ (t : List ℕ). get_or t 0 0) (sym same ∙ decimal_digit 0 (omega arith))))
minus_text (suc m) ds lead same = ap (λ (t : List ℕ). 45 ∷ t) same

pub abs_minus : (v : ℕ) → unsigned_abs (neg_ℤ (pos v)) ≡ v
abs_minus zero = refl
abs_minus (suc m) = refl

minus_digits : (ds : List ℕ) → 48 < get_or ds 0 0 → IsNumeral 10 ds → unsigned_abs (neg_ℤ (pos (digits_value 10 ds))) ≤ 2 ^ 120 → signed_decimal (neg_ℤ (pos (digits_value 10 ds))) ≡ 45 ∷ ds
minus_digits ds lead numeral small =
    minus_text (digits_value 10 ds) ds lead (decimal_value ds numeral.1 numeral.0 (λ zero. absurd (omega arith)) (omega (arith, abs_minus (digits_value 10 ds))))

-- one of two tests was passed
chosen : (b c d : Bool) → cond b c d ≡ true → ((b ≡ true) × (c ≡ true)) ⊎ ((b ≡ false) × (d ≡ true))
chosen true c d h = inl (refl, h)
chosen false c d h = inr (refl, h)

-- the same of a word that no sign stands before
unsigned_text : (word : List ℕ) → (without_leading_sign word ≡ word) × (signed_digits_value 10 word ≡ pos (digits_value 10 word)) → (get_or word 0 0 ≡ 48 → length word ≡ 1)
    → IsNumeral 10 (without_leading_sign word) → unsigned_abs (signed_digits_value 10 word) ≤ 2 ^ 120 → signed_decimal (signed_digits_value 10 word) ≡ word
unsigned_text word alone lead numeral small =
    let P : List ℕ → Type 0 = IsNumeral 10 in
    let digits = subst P alone.0 numeral in
    let least : digits_value 10 word ≤ 2 ^ 120 = omega (arith, small, ap unsigned_abs alone.1) in
    ap signed_decimal alone.1 ∙ decimal_value word digits.1 digits.0 lead (omega arith)

-- and of one that a minus stands before
signed_text : (c : ℕ) (ds : List ℕ) → eqb c 45 ≡ true → 48 < get_or ds 0 0
    → IsNumeral 10 (without_leading_sign (c ∷ ds)) → unsigned_abs (signed_digits_value 10 (c ∷ ds)) ≤ 2 ^ 120 → signed_decimal (signed_digits_value 10 (c ∷ ds)) ≡ c ∷ ds
signed_text c ds minus lead numeral small =
    let is : c ≡ 45 = eqb-true c 45 minus in
    let P : ℕ → Type 0 = λ b. IsNumeral 10 (without_leading_sign (b ∷ ds)) → unsigned_abs (signed_digits_value 10 (b ∷ ds)) ≤ 2 ^ 120 → signed_decimal (signed_digits_value 10 (b ∷ ds)) ≡ b ∷ ds in
    subst P (sym is) (minus_digits ds lead) numeral small

-- a word of digits that nothing needless stands before is the text of what it spells
word_text : (word : List ℕ) → is_plain word ≡ true → IsNumeral 10 (without_leading_sign word) → unsigned_abs (signed_digits_value 10 word) ≤ 2 ^ 120 → signed_decimal (signed_digits_value 10 word) ≡ word
word_text [] plain numeral small = absurd (false≢true plain)
word_text (c ∷ []) plain numeral small =
    let low : 48 ≤ c = leb-true 48 c (both _ _ plain).0 in
    let alone = unsigned_word (c ∷ []) (ne_eqb c 45 (omega arith)) (ne_eqb c 43 (omega arith)) in
    unsigned_text (c ∷ []) alone (λ _. refl) numeral small
word_text (c ∷ e ∷ cs) plain numeral small =
    ⊎_elim (λ minus. signed_text c (e ∷ cs) minus.0 (ltb-true 48 e (both _ _ minus.1).0) numeral small)
    (λ digit.
    let low : 48 < c = ltb-true 48 c (both _ _ digit.1).0 in
    let alone = unsigned_word (c ∷ e ∷ cs) digit.0 (ne_eqb c 43 (omega arith)) in
    unsigned_text (c ∷ e ∷ cs) alone (λ zero. absurd (omega arith)) numeral small)
    (chosen (eqb c 45) (is_leading_digit e) (is_leading_digit c) plain)

-- a word that spells no number: one of what a number's text has is missing
none_unless : (b : Bool) (z : ℤ) → (b ≡ true → ⊥) → cond b (Some z) None ≡ None
none_unless true z h = absurd (h refl)
none_unless false z h = refl

pub word_number_refused : (word : List ℕ) → (IsNumberWord word (signed_digits_value 10 word) → is_whole (signed_digits_value 10 word) ≡ true → ⊥) → word_number word ≡ None
word_number_refused word h =
    let number = signed_digits_value 10 word in
    none_unless (bytes_eq word (signed_decimal number) && is_whole number) number
    (λ passed.
    let tests = both (bytes_eq word (signed_decimal number)) (is_whole number) passed in
    let same = (bytes_eq-Decides word (signed_decimal number)).0 tests.0 in
    let P : List ℕ → Type 0 = λ w. IsNumberWord w number in
    h (subst P (sym same) (number_word_is number (small_from_whole number tests.1))) tests.1)

-- a word of digits that nothing needless stands before spells their number, if it is small enough
pub word_number_read : (word : List ℕ) → is_plain word ≡ true → IsNumeral 10 (without_leading_sign word) → is_whole (signed_digits_value 10 word) ≡ true → word_number word ≡ Some (signed_digits_value 10 word)
word_number_read word plain numeral whole =
    let number = signed_digits_value 10 word in
    let same = word_text word plain numeral (small_from_whole number whole) in
    let test : bytes_eq word (signed_decimal number) ≡ true = (bytes_eq-Decides word (signed_decimal number)).1 (sym same) in
    rw (test, whole) refl
