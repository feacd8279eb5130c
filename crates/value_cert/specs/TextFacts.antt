-- What the text of a certificate tells.
use Rattle.std.proofs.Common.{◌≡◌, ℕ, List, [], ◌∷◌, ◌++◌, length, true, Some, None, refl, ap, ◌∙◌, sym, subst, arith, append_assoc}
use Rattle.std.specs.Prelude.{◌==◌}
use Rattle.std.specs.declared.option.Option.{Option}
use Rattle.std.specs.List.{slice_split}
use Rattle.std.proofs.lemmas.Bool.{false≢true}
use Rattle.std.proofs.lemmas.List.{append_cancel_left, length-append}
use Rattle.value_cert.specs.CertFacts.{facts_of, same_cert, whole_ends}
use Rattle.value_cert.specs.Grammar.{has_numbers, next_place, step_of, place_from, is_ended, has_ended}
use Rattle.value_cert.specs.GrammarFacts.{stepped, at_ended}
use Rattle.value_cert.specs.Lines.{line_words, line_text}
use Rattle.value_cert.specs.Parsing.{line_of}
use Rattle.value_cert.specs.ParsingFacts.{line_of-line_words, line_words-without}
use Rattle.line_text.specs.ReadingFacts.{slice_split-text}
use Rattle.value_cert.specs.Texts.{cert_lines, cert_text, lines_text, HasText, IsWhole}
use Rattle.value_cert.specs.declared.cert.Cert.{Cert}
use Rattle.value_cert.specs.declared.line.CertLine.{CertLine}
use Rattle.value_cert.specs.declared.line.Tag.TheVariants as tag
use Rattle.value_cert.specs.declared.place.Place.{Place}
use Rattle.value_cert.specs.declared.place.Place.TheVariants as place

-- two lines of the same words are the same
same_words : (x y : CertLine) → has_numbers x ≡ true → has_numbers y ≡ true → line_words x ≡ line_words y → x ≡ y
same_words x y hx hy same =
    let spelled : Some x ≡ Some y = sym (line_of-line_words x hx) ∙ ap line_of same ∙ line_of-line_words y hy in
    cc

-- the text of a line and what stands behind it
text_behind : (x : CertLine) (rest : List ℕ) → line_text x ++ rest ≡ line_words x ++ 10 ∷ rest
text_behind x rest = append_assoc (line_words x) (10 ∷ []) rest

-- texts that begin with a line each, and are the same, begin with the same line
same_line : (x y : CertLine) (s t : List ℕ) → has_numbers x ≡ true → has_numbers y ≡ true → line_text x ++ s ≡ line_text y ++ t → (x ≡ y) × (s ≡ t)
same_line x y s t hx hy same =
    let texts : line_words x ++ 10 ∷ s ≡ line_words y ++ 10 ∷ t = sym (text_behind x s) ∙ same ∙ text_behind y t in
    let splits : line_words x ∷ slice_split (λ byte. byte == 10) s ≡ line_words y ∷ slice_split (λ byte. byte == 10) t =
    sym (slice_split-text (line_words x) s (line_words-without x)) ∙ ap (slice_split (λ byte. byte == 10)) texts ∙ slice_split-text (line_words y) t (line_words-without y) in
    let words : line_words x ≡ line_words y = cc in
    let behind : 10 ∷ s ≡ 10 ∷ t = append_cancel_left (line_words x) (10 ∷ s) (10 ∷ t) (texts ∙ ap (λ w. w ++ 10 ∷ t) (sym words)) in
    let rest : s ≡ t = cc in
    (same_words x y hx hy words, rest)

-- the text of a line isn't empty
some_text : (x : CertLine) (rest : List ℕ) → line_text x ++ rest ≡ [] → ⊥
some_text x rest h = omega (arith, ap length h, length-append (line_text x) rest, length-append (line_words x) (10 ∷ []))

-- behind an end stands no line
ended_nowhere : {A : Type 0} (at : Place) (y : CertLine) (ys : List CertLine) → is_ended at ≡ true → has_ended (place_from (step_of at y) ys) ≡ true → A
ended_nowhere place.Start y ys ended h = absurd (false≢true ended)
ended_nowhere (place.Behind which tag.End) y ys ended h = let never : y ∷ ys ≡ [] = at_ended which (facts_of which).last (y ∷ ys) h in cc
ended_nowhere (place.Behind which _) y ys ended h = absurd (false≢true ended)

-- of two ends of certificates from the same place on, whose text begins with the other's, each is the other
apart_from : (from : Option Place) (a b : List CertLine) (more : List ℕ) → has_ended (place_from from a) ≡ true → has_ended (place_from from b) ≡ true
    → lines_text a ++ more ≡ lines_text b → (a ≡ b) × (more ≡ [])
apart_from None a b more ha hb same = absurd (false≢true ha)
apart_from (Some at) [] [] more ha hb same = (refl, same)
apart_from (Some at) [] (y ∷ ys) more ha hb same = ended_nowhere at y ys ha hb
apart_from (Some at) (x ∷ xs) [] more ha hb same = absurd (some_text x (lines_text xs ++ more) (sym (append_assoc (line_text x) (lines_text xs) more) ∙ same))
apart_from (Some at) (x ∷ xs) (y ∷ ys) more ha hb same =
    let numbers_x = (stepped (has_numbers x) (next_place at x) xs ha).0 in
    let numbers_y = (stepped (has_numbers y) (next_place at y) ys hb).0 in
    let first = same_line x y (lines_text xs ++ more) (lines_text ys) numbers_x numbers_y (sym (append_assoc (line_text x) (lines_text xs) more) ∙ same) in
    let P : CertLine → Type 0 = λ l. has_ended (place_from (step_of at l) ys) ≡ true in
    let rest = apart_from (step_of at x) xs ys more ha (subst P (sym first.0) hb) first.1 in
    (ap (λ l. l ∷ xs) first.0 ∙ ap (λ t. y ∷ t) rest.0, rest.1)

-- no certificate's text is the front of another's
pub texts_apart : (a b : List CertLine) (more : List ℕ) → IsWhole a → IsWhole b → lines_text a ++ more ≡ lines_text b → (a ≡ b) × (more ≡ [])
texts_apart a b more ha hb same = apart_from (Some place.Start) a b more (whole_ends a ha) (whole_ends b hb) same

pub certs_apart : (a b : Cert) (more : List ℕ) → HasText a → HasText b → cert_text a ++ more ≡ cert_text b → (a ≡ b) × (more ≡ [])
certs_apart a b more ha hb same =
    let apart = texts_apart (cert_lines a) (cert_lines b) more (a, ha, refl) (b, hb, refl) same in
    (same_cert a b ha hb apart.0, apart.1)
