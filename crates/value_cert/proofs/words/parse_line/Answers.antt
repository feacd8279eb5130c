use Rattle.std.proofs.Common.{◌≡◌, ℕ, ◌<◌, List, [], ◌∷◌, None, length, ap, sym, ◌∙◌, refl, arith}
use Rattle.std.specs.List.{slice_split}
use Rattle.std.proofs.lemmas.List.Splits.{length-slice_split}
use Rattle.value_cert.specs.Parsing.{words_line}
use Rattle.value_cert.specs.LineWords.{is_blank}
use Rattle.value_cert.proofs.words.parse_line.Goals as goal

-- six words or more are no line
many_words : (a b c d e : List ℕ) (words : List (List ℕ)) → 0 < length words → words_line (a ∷ b ∷ c ∷ d ∷ e ∷ words) ≡ None
many_words a b c d e [] some = absurd (omega arith)
many_words a b c d e (f ∷ words) some = refl

pub returns-in-Some-split_word-4 : goal.returns-in-Some-split_word-4
returns-in-Some-split_word-4 c =
    let tag = c.in-Some.tag.now in
    let first = c.in-Some-split_word.first.now in
    let second = c.in-Some-split_word-2.second.now in
    let third = c.in-Some-split_word-3.third.now in
    let fourth = c.in-Some-split_word-4.field-0.0.now in
    let rest = c.in-Some-split_word-4.field-0.1.now in
    let words : slice_split is_blank c.args.bytes.now ≡ tag ∷ first ∷ second ∷ third ∷ fourth ∷ slice_split is_blank rest =
    c.in-Some.ensures ∙ ap (λ (t : List (List ℕ)). tag ∷ t) (c.in-Some-split_word.ensures ∙ ap (λ (t : List (List ℕ)). first ∷ t)
    (c.in-Some-split_word-2.ensures ∙ ap (λ (t : List (List ℕ)). second ∷ t) (c.in-Some-split_word-3.ensures ∙ ap (λ (t : List (List ℕ)). third ∷ t) c.in-Some-split_word-4.ensures))) in
    sym (ap words_line words ∙ many_words tag first second third fourth (slice_split is_blank rest) (omega (arith, length-slice_split is_blank rest)))
