use Rattle.std.proofs.Common.{◌≡◌, ℕ, ◌<◌, ◌&&◌, Bool, true, false, cond, List, [], ◌∷◌, length, ℤ, Option, Some, None, sym, ap, ◌∙◌, refl, arith}
use Rattle.std.specs.List.{slice_split}
use Rattle.std.specs.Prelude.{nat_le}
use Rattle.std.proofs.lemmas.Bool.Decides.{nat_tests}
use Rattle.std.proofs.lemmas.List.Splits.{length-slice_split}
use Rattle.value_cert.specs.FlatLines.{is_letter, row_of, row_with, with_number, numbers_of}
use Rattle.value_cert.specs.LineWords.{is_blank}
use Rattle.value_cert.specs.Parsing.{word_number}
use Rattle.value_cert.specs.declared.flat_line.FlatLine.{FlatLine}
use Rattle.value_cert.proofs.flat_words.row_of_four.Goals as goal

unpassed : (b t : Bool) (line : FlatLine) → t ≡ false → cond (b && t) (Some line) None ≡ None
unpassed true t line h = rw h refl
unpassed false t line h = refl

-- five numbers or more are no row
five_numbers : (tag : ℕ) (a b c : ℤ) (d e : Option ℤ) (numbers : Option (List ℤ)) → row_with tag (a ∷ b ∷ c ∷ []) (with_number d (with_number e numbers)) ≡ None
five_numbers tag a b c None e numbers = refl
five_numbers tag a b c (Some d) None numbers = refl
five_numbers tag a b c (Some d) (Some e) None = refl
five_numbers tag a b c (Some d) (Some e) (Some numbers) =
    let all = a ∷ b ∷ c ∷ d ∷ e ∷ numbers in
    let many : nat_le (length all) 4 ≡ false = grind (arith, nat_tests) in
    unpassed (is_letter tag && nat_le 1 (length all)) (nat_le (length all) 4) (row_of tag all) many

more_words : (tag : ℕ) (a b c : ℤ) (word : List ℕ) (words : List (List ℕ)) → 0 < length words → row_with tag (a ∷ b ∷ c ∷ []) (numbers_of (word ∷ words)) ≡ None
more_words tag a b c word [] some = absurd (omega arith)
more_words tag a b c word (next ∷ words) some = five_numbers tag a b c (word_number word) (word_number next) (numbers_of words)

pub returns-in-Some : goal.returns-in-Some
returns-in-Some c =
    let word = c.in-Some.field-0.0.now in
    let rest = c.in-Some.field-0.1.now in
    sym (ap (λ (words : List (List ℕ)). row_with c.args.tag (c.args.a ∷ c.args.b ∷ c.args.c ∷ []) (numbers_of words)) c.in-Some.ensures
    ∙ more_words c.args.tag c.args.a c.args.b c.args.c word (slice_split is_blank rest) (omega (arith, length-slice_split is_blank rest)))
