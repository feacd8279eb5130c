-- Numbers and the digits that spell them: of a few more digits, of two parts, and as words of certificates.
use Rattle.std.proofs.Common.{◌≡◌, ℕ, ◌+◌, ◌*◌, ◌^◌, ◌<◌, ◌≤◌, Bool, true, cond, List, [], ◌∷◌, ◌++◌, length, drop, get_or, pos, neg_ℤ, ◌-ℤ◌, Some, None, sym, refl, ap, ◌∙◌, subst, arith}
use Rattle.std.proofs.lemmas.Int.{ints}
use Rattle.std.specs.Prelude.{unsigned_abs}
use Rattle.std.specs.Char.{digit_value}
use Rattle.std.specs.Str.Parse.{AllDigits, IsNumeral, digits_value, digits_value_after, signed_digits_value, without_leading_sign}
use Rattle.std.proofs.lemmas.Bool.{false≢true, leb-true}
use Rattle.std.proofs.lemmas.Str.Parse.{digits_value_short, numerals_by_value, tells_digits}
use Rattle.std.proofs.Math.Nat.{pow-zero, pow-succ'}
use borrow.Author.Tests.{ltb-true, eq-eqb, ne_eqb}
use Rattle.value_cert.specs.LineWords.{is_leading_digit, is_plain}
use Rattle.value_cert.specs.NumberFacts.{both, unsigned_word, abs_minus, whole_from_small, word_number_read, word_number_refused}
use Rattle.value_cert.specs.Parsing.{word_number}

-- so many digits spell a number below that power of ten
pub few_digits : (ds : List ℕ) (k : ℕ) → AllDigits 10 ds → length ds ≤ k → digits_value 10 ds < 10 ^ k
few_digits ds k d short = digits_value_short (numerals_by_value (AllDigits 10) tells_digits) ds k d short

-- digits in two parts
after_both : (n : ℕ) (a b : List ℕ) → digits_value_after 10 n (a ++ b) ≡ digits_value_after 10 (digits_value_after 10 n a) b
after_both n [] b = refl
after_both n (c ∷ cs) b = after_both (n * 10 + digit_value c) cs b

after_is : (n : ℕ) (ds : List ℕ) → digits_value_after 10 n ds ≡ n * 10 ^ length ds + digits_value_after 10 0 ds
after_is n [] = omega (arith, ap (λ x. n * x) (pow-zero 10))
after_is n (c ∷ cs) =
    omega (arith, ap (λ x. n * x) (pow-succ' 10 (length cs)), after_is (n * 10 + digit_value c) cs, after_is (0 * 10 + digit_value c) cs)

pub value_of_both : (a b : List ℕ) → digits_value 10 (a ++ b) ≡ digits_value 10 a * 10 ^ length b + digits_value 10 b
value_of_both a b = after_both 0 a b ∙ after_is (digits_value 10 a) b

pub digits_of_both : (a b : List ℕ) → AllDigits 10 a → AllDigits 10 b → AllDigits 10 (a ++ b)
digits_of_both [] b h k = k
digits_of_both (c ∷ cs) b h k = (h.0, digits_of_both cs b h.1 k)

pub both_digits : (a b : List ℕ) → AllDigits 10 (a ++ b) → AllDigits 10 a × AllDigits 10 b
both_digits [] b h = (tt, h)
both_digits (c ∷ cs) b h = let rest = both_digits cs b h.1 in ((h.0, rest.0), rest.1)

-- a word that a minus stands before, and what is known of it
signed_word : (word : List ℕ) → get_or word 0 0 ≡ 45 → (without_leading_sign word ≡ drop 1 word) × (signed_digits_value 10 word ≡ neg_ℤ (pos (digits_value 10 (drop 1 word))))
signed_word word minus = let test = eq-eqb (get_or word 0 0) 45 minus in (rw test refl, rw test refl)

digits_behind : (word : List ℕ) → is_plain word ≡ true → get_or word 0 0 ≡ 45 → 0 < length (drop 1 word)
digits_behind [] plain minus = absurd (false≢true plain)
digits_behind (c ∷ []) plain minus = absurd (omega (arith, minus, leb-true 48 c (both _ _ plain).0))
digits_behind (c ∷ e ∷ cs) plain minus = omega arith

minus_of : (n : ℕ) → pos 0 -ℤ pos n ≡ neg_ℤ (pos n)
minus_of n = omega (arith, ints)

fewer : (word : List ℕ) → length (drop 1 word) ≤ length word
fewer [] = omega arith
fewer (c ∷ cs) = omega arith

pub minus_number : (word : List ℕ) (n : ℕ) → is_plain word ≡ true → length word ≤ 36 → get_or word 0 0 ≡ 45 → AllDigits 10 (drop 1 word) × (n ≡ digits_value 10 (drop 1 word)) → Some (pos 0 -ℤ pos n) ≡ word_number word
minus_number word n plain short minus digits =
    let sign = signed_word word minus in
    let value : ℕ = digits_value 10 (drop 1 word) in
    let numeral : IsNumeral 10 (drop 1 word) = (digits_behind word plain minus, digits.0) in
    let small = few_digits (drop 1 word) 36 digits.0 (omega (arith, short, fewer word)) in
    let size : unsigned_abs (signed_digits_value 10 word) ≡ value = ap unsigned_abs sign.1 ∙ abs_minus value in
    let P : List ℕ → Type 0 = IsNumeral 10 in
    ap (λ m. Some (pos 0 -ℤ pos m)) digits.1 ∙ ap Some (minus_of value ∙ sym sign.1)
    ∙ sym (word_number_read word plain (subst P (sym sign.0) numeral) (whole_from_small (signed_digits_value 10 word) (omega (arith, size, small))))

pub no_minus_number : (word : List ℕ) → get_or word 0 0 ≡ 45 → (AllDigits 10 (drop 1 word) → ⊥) → None ≡ word_number word
no_minus_number word minus none =
    let P : List ℕ → Type 0 = IsNumeral 10 in
    sym (word_number_refused word (λ facts whole. none (subst P (signed_word word minus).0 facts.numeral).1))

-- and one that no minus stands before
first_digit_of : (word : List ℕ) → is_plain word ≡ true → (get_or word 0 0 ≡ 45 → ⊥) → 48 ≤ get_or word 0 0
first_digit_of [] plain none = absurd (false≢true plain)
first_digit_of (c ∷ []) plain none = leb-true 48 c (both _ _ plain).0
first_digit_of (c ∷ e ∷ cs) plain none =
    let P : Bool → Type 0 = λ b. cond b (is_leading_digit e) (is_leading_digit c) ≡ true in
    let low = ltb-true 48 c (both _ _ (subst P (ne_eqb c 45 none) plain)).0 in
    omega arith

plain_word : (word : List ℕ) → is_plain word ≡ true → (get_or word 0 0 ≡ 45 → ⊥) → (without_leading_sign word ≡ word) × (signed_digits_value 10 word ≡ pos (digits_value 10 word))
plain_word word plain none =
    let low = first_digit_of word plain none in
    unsigned_word word (ne_eqb (get_or word 0 0) 45 none) (ne_eqb (get_or word 0 0) 43 (omega arith))

some_digits : (word : List ℕ) → is_plain word ≡ true → 0 < length word
some_digits [] plain = absurd (false≢true plain)
some_digits (c ∷ cs) plain = omega arith

pub plus_number : (word : List ℕ) (n : ℕ) → is_plain word ≡ true → length word ≤ 36 → (get_or word 0 0 ≡ 45 → ⊥) → AllDigits 10 word × (n ≡ digits_value 10 word) → Some (pos n) ≡ word_number word
plus_number word n plain short none digits =
    let alone = plain_word word plain none in
    let value : ℕ = digits_value 10 word in
    let numeral : IsNumeral 10 word = (some_digits word plain, digits.0) in
    let small = few_digits word 36 digits.0 short in
    let size : unsigned_abs (signed_digits_value 10 word) ≡ value = ap unsigned_abs alone.1 in
    let P : List ℕ → Type 0 = IsNumeral 10 in
    ap (λ m. Some (pos m)) digits.1 ∙ ap Some (sym alone.1)
    ∙ sym (word_number_read word plain (subst P (sym alone.0) numeral) (whole_from_small (signed_digits_value 10 word) (omega (arith, size, small))))

pub no_plus_number : (word : List ℕ) → is_plain word ≡ true → (get_or word 0 0 ≡ 45 → ⊥) → (AllDigits 10 word → ⊥) → None ≡ word_number word
no_plus_number word plain minus none =
    let P : List ℕ → Type 0 = IsNumeral 10 in
    sym (word_number_refused word (λ facts whole. none (subst P (plain_word word plain minus).0 facts.numeral).1))
