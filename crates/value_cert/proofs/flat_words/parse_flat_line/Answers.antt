use Rattle.std.proofs.Common.{◌≡◌, ℕ, ◌<◌, false, List, [], ◌∷◌, length, sym, ap, ◌∙◌, refl, arith}
use Rattle.std.specs.List.{slice_split}
use Rattle.std.specs.Prelude.{codes}
use Rattle.std.specs.Str.{bytes_eq}
use Rattle.std.proofs.lemmas.List.Splits.{length-slice_split}
use Rattle.value_cert.specs.FlatLines.{row_line, numbers_of, words_line}
use Rattle.value_cert.specs.LineWords.{is_blank}
use Rattle.value_cert.specs.declared.flat_line.FlatName.{FlatName}
use Rattle.value_cert.proofs.flat_words.parse_flat_line.Goals as goal

-- a tag that begins no head, and words behind it
row_words : (name : FlatName) (tag : List ℕ) (words : List (List ℕ)) → bytes_eq tag (codes "certificate") ≡ false → 0 < length words → words_line name (tag ∷ words) ≡ row_line tag (numbers_of words)
row_words name tag [] other some = absurd (omega arith)
row_words name tag (word ∷ words) other some = rw other refl

pub returns-else-is_word-2 : goal.returns-else-is_word-2
returns-else-is_word-2 c =
    let tag = c.in-Some.tag.now in
    let words = slice_split is_blank c.in-Some.rest.now in
    c.parse_row.ensures
    ∙ sym (ap (words_line c.args.name) c.in-Some.ensures ∙ row_words c.args.name tag words (sym c.is_word-2.ensures ∙ c.if-is_word-2.false) (omega (arith, length-slice_split is_blank c.in-Some.rest.now)))
