use Rattle.std.proofs.Common.{true, ◌≡◌, List, ℕ, ℤ, to_z, of_z, subst, sym, ap, ◌∙◌, Some, None, FitsSigned, arith}
use Rattle.std.specs.Int.{w128}
use Rattle.std.specs.Str.Parse.{IsNumeral, signed_digits_value, without_leading_sign}
use Rattle.std.proofs.lemmas.Int.{to_z-of_z, fits_signed_from_abs}
use Rattle.std.proofs.lemmas.Str.{IsUtf8-from_ascii}
use Rattle.value_cert.specs.NumberFacts.{word_number_refused, word_number_read, small_from_whole}
use Rattle.value_cert.specs.Numbers.{is_whole}
use Rattle.value_cert.specs.Parsing.{word_number}
use Rattle.value_cert.specs.LineWords.{is_plain}
use Rattle.value_cert.proofs.words.long_number.Goals as goal

pub returns-in_default : goal.returns-in_default
returns-in_default c = sym (word_number_refused c.args.word.now (λ facts whole. c.in_default.ensures.cases.0 (IsUtf8-from_ascii c.args.word.now facts.ascii)))

-- what `parse` refuses is no number of a certificate, for such a number fits
refused : (text word : List ℕ) → text ≡ word → (IsNumeral 10 (without_leading_sign text) × FitsSigned w128 (signed_digits_value 10 text) → ⊥) → word_number word ≡ None
refused text word same unfit =
    let P : List ℕ → Type 0 = λ t. IsNumeral 10 (without_leading_sign t) × FitsSigned w128 (signed_digits_value 10 t) → ⊥ in
    word_number_refused word (λ facts whole.
    let small = small_from_whole (signed_digits_value 10 word) whole in
    let fits : FitsSigned w128 (signed_digits_value 10 word) = fits_signed_from_abs w128 (signed_digits_value 10 word) (omega arith) in
    let never = subst P same unfit in
    never (facts.numeral, fits))

pub returns-in_default-parse : goal.returns-in_default-parse
returns-in_default-parse c = sym (refused c.in-Ok.text.now c.args.word.now c.in-Ok.ensures.cases.0 c.in_default-parse.ensures.value.0)

-- what `parse` read is the number of the word
found : (text word : List ℕ) (n : ℤ) → text ≡ word → IsNumeral 10 (without_leading_sign text) × FitsSigned w128 (signed_digits_value 10 text) → n ≡ signed_digits_value 10 text
    → is_plain word ≡ true → is_whole (to_z w128 (of_z w128 n)) ≡ true → Some (to_z w128 (of_z w128 n)) ≡ word_number word
found text word n same read value plain whole =
    let number = signed_digits_value 10 text in
    let is : to_z w128 (of_z w128 n) ≡ number = ap (λ z. to_z w128 (of_z w128 z)) value ∙ to_z-of_z w128 number read.1 in
    let P : List ℕ → Type 0 = λ t. Some (signed_digits_value 10 t) ≡ word_number word in
    let Q : List ℕ → Type 0 = λ t. IsNumeral 10 (without_leading_sign t) in
    let R : List ℕ → Type 0 = λ t. is_whole (signed_digits_value 10 t) ≡ true in
    ap Some is ∙ subst P (sym same) (sym (word_number_read word plain (subst Q same read.0) (subst R same (ap is_whole (sym is) ∙ whole))))

pub returns-then-is_whole_number : goal.returns-then-is_whole_number
returns-then-is_whole_number c =
    found c.in-Ok.text.now c.args.word.now c.in-Ok-parse.number c.in-Ok.ensures.cases.0 c.in-Ok-parse.ensures.value.0.0 c.in-Ok-parse.ensures.value.0.1
    c.requires (sym c.is_whole_number.ensures ∙ c.if-is_whole_number.true)
