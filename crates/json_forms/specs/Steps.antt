-- Steps that may fail, one after another.
use Rattle.std.specs.Prelude.{List, [], ◌∷◌, Bool, if◌then◌else◌, Result, Ok, Err, ⊤}

infixl 10 ◌>>=◌
-- what the first step gives goes to the second, and a fault ends them
abbrev pub ◌>>=◌ : {A B E : Type 0} → Result A E → (A → Result B E) → Result B E
Ok a >>= f = f a
Err e >>= f = Err e

-- what each reading gives, or the first fault
abbrev pub each : {D A E : Type 0} → (D → Result A E) → List D → Result (List A) E
each form [] = Ok []
each form (d ∷ ds) = do
  a ← form d
  rest ← each form ds
  Ok (a ∷ rest)

-- the fault where a rule is broken
abbrev pub unless : {E : Type 0} → E → Bool → Result ⊤ E
unless fault holds = if holds then Ok tt else Err fault
