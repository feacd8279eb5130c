use Rattle.std.proofs.Common.{◌≡◌, ℕ, List, [], ◌∷◌, ◌++◌, MatchOption, Option, Some, None, ap, ◌∙◌, refl, Bor}
use Rattle.std.specs.List.{slice_split}
use Rattle.std.proofs.lemmas.List.Splits.{slice_split_none, slice_split_at}
use Rattle.line_text.specs.LineWords.{IsWithout}
use Rattle.value_cert.specs.LineWords.{is_blank}
use Rattle.value_cert.proofs.words.split_word.Goals as goal

-- a cut at the first blank takes off the first word
first_word : (bytes : List ℕ) (cut : Option (Bor (List ℕ) × Bor (List ℕ)))
    → MatchOption cut (IsWithout 32 bytes) (λ c. IsWithout 32 c.0.now × (bytes ≡ c.0.now ++ 32 ∷ c.1.now))
    → MatchOption cut (slice_split is_blank bytes ≡ bytes ∷ []) (λ c. slice_split is_blank bytes ≡ c.0.now ∷ slice_split is_blank c.1.now)
first_word bytes None h = slice_split_none is_blank bytes h
first_word bytes (Some c) h = ap (slice_split is_blank) h.1 ∙ slice_split_at is_blank c.0.now 32 c.1.now h.0 refl

pub returns : goal.returns
returns c = first_word c.args.bytes.now c.split_at_byte.result c.split_at_byte.ensures
