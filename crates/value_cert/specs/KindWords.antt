-- What is proved of the word of each kind.
use Rattle.std.proofs.Common.{◌≡◌, ℕ, ◌≤◌, ◌&&◌, Bool, true, false, cond, if◌then◌else◌, List, [], ◌∷◌, length, Some, refl}
use Rattle.std.specs.Prelude.{◌==◌, nat_le}
use Rattle.std.proofs.lemmas.Bool.{leb-true, false≢true}
use Rattle.decision_model.specs.Kind.{kind_word, kind_named}
use Rattle.decision_model.specs.declared.kinds.Kind.{Kind}
use Rattle.decision_model.specs.declared.kinds.Kind.TheVariants as kind
use Rattle.line_text.specs.LineWords.{IsWithout}
use Rattle.value_cert.specs.NumberFacts.{both, all_cons, all_none}

-- none of the bytes is this one
abbrev pub lacks : ℕ → List ℕ → Bool
lacks unwanted [] = true
lacks unwanted (byte ∷ bytes) = if byte == unwanted then false else lacks unwanted bytes

pub lacking : (unwanted : ℕ) (bytes : List ℕ) → lacks unwanted bytes ≡ true → IsWithout unwanted bytes
lacking unwanted [] h = all_none (λ b. (b == unwanted) ≡ false)
lacking unwanted (byte ∷ bytes) h = by (byte == unwanted) refl h (lacking unwanted bytes)
  where
    by : (same : Bool) → (byte == unwanted) ≡ same → cond same false (lacks unwanted bytes) ≡ true → (lacks unwanted bytes ≡ true → IsWithout unwanted bytes)
        → IsWithout unwanted (byte ∷ bytes)
    by true is h later = absurd (false≢true h)
    by false is h later = all_cons (λ b. (b == unwanted) ≡ false) byte bytes is (later h)

-- a short word of one line, which names its kind
pub record IsNamed (which : Kind) : Type 0 where
  pub short : length (kind_word which) ≤ 10
  pub one_word : IsWithout 32 (kind_word which)
  pub one_line : IsWithout 10 (kind_word which)
  pub found : kind_named (kind_word which) ≡ Some which

abbrev is_short_word : List ℕ → Bool
is_short_word word = nat_le (length word) 10 && lacks 32 word && lacks 10 word

by_word : (which : Kind) → is_short_word (kind_word which) ≡ true → kind_named (kind_word which) ≡ Some which → IsNamed which
by_word which h found =
    let word = kind_word which in
    let tests = both (nat_le (length word) 10 && lacks 32 word) (lacks 10 word) h in
    let front = both (nat_le (length word) 10) (lacks 32 word) tests.0 in
    record { short = leb-true (length word) 10 front.0; one_word = lacking 32 word front.1; one_line = lacking 10 word tests.1; found = found }

pub named : (which : Kind) → IsNamed which
named kind.News = by_word kind.News refl refl
named kind.Lots = by_word kind.Lots refl refl
named kind.Finite = by_word kind.Finite refl refl
named kind.Average = by_word kind.Average refl refl
named kind.Serial = by_word kind.Serial refl refl
named kind.Network = by_word kind.Network refl refl
