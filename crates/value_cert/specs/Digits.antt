-- Numbers and the digits that spell them.
use Rattle.std.specs.Prelude.{◌≡◌, ℕ, List, Option, MatchOption}
use Rattle.std.specs.Str.Parse.{AllDigits, digits_value}

-- the number is what digits spell, and there is none where another byte stands among them
abbrev pub IsNumberOf : List ℕ → Option ℕ → Type 0
IsNumberOf digits number = MatchOption number (AllDigits 10 digits → ⊥) (λ value. AllDigits 10 digits × (value ≡ digits_value 10 digits))
