use Rattle.std.proofs.Common.{◌≡◌, ℕ, ◌<◌, List, [], ◌∷◌, None, length, sym, ap, ◌∙◌, refl, arith}
use Rattle.std.specs.List.{slice_split}
use Rattle.std.proofs.lemmas.List.Splits.{length-slice_split}
use Rattle.value_cert.specs.FlatLines.{head_line}
use Rattle.value_cert.specs.LineWords.{is_blank}
use Rattle.value_cert.specs.declared.flat_line.FlatName.{FlatName}
use Rattle.value_cert.proofs.flat_words.parse_head.Goals as goal

-- three words or more are no head
many_words : (name : FlatName) (a b : List ℕ) (words : List (List ℕ)) → 0 < length words → head_line name (a ∷ b ∷ words) ≡ None
many_words name a b [] some = absurd (omega arith)
many_words name a b (c ∷ words) some = refl

pub returns-in-Some : goal.returns-in-Some
returns-in-Some c =
    let first = c.in_ok-version.version.now in
    let second = c.in-Some.field-0.0.now in
    let rest = c.in-Some.field-0.1.now in
    let words : slice_split is_blank c.args.bytes.now ≡ first ∷ second ∷ slice_split is_blank rest =
    c.in_ok-version.ensures ∙ ap (λ (t : List (List ℕ)). first ∷ t) c.in-Some.ensures in
    sym (ap (head_line c.args.name) words ∙ many_words c.args.name first second (slice_split is_blank rest) (omega (arith, length-slice_split is_blank rest)))
