-- What a read of the whole source takes.
use Rattle.std.specs.Prelude.{◌≡◌, ℕ, ◌+◌, ◌≤◌, List, length}
use Rattle.std.specs.declared.option.Option.{Option}
use Rattle.std.specs.Io.KnownBytes.{Consumes, IsAtEnd}
use Rattle.stock_edge.specs.declared.whole.ReadErr.{ReadErr}
use Rattle.stock_edge.specs.declared.whole.ReadErr.TheVariants.{Failed, TooLong, Memory}

-- these are all the known bytes, and none is left
pub record IsWhole (old new : Option (List ℕ)) (bytes : List ℕ) : Type 0 where
  pub taken : Consumes old new bytes
  pub end : IsAtEnd new

-- at most so many of the known bytes were taken, from the front
abbrev pub TakesUpTo : Option (List ℕ) → Option (List ℕ) → ℕ → Type 0
TakesUpTo old new most = (bytes : List ℕ) × Consumes old new bytes × (length bytes ≤ most)

-- just so many of the known bytes were taken, from the front
abbrev pub TakesExactly : Option (List ℕ) → Option (List ℕ) → ℕ → Type 0
TakesExactly old new count = (bytes : List ℕ) × Consumes old new bytes × (length bytes ≡ count)

-- what a read of at most limit bytes has taken when it is refused
abbrev pub TakesBeforeRefusal : Option (List ℕ) → Option (List ℕ) → ℕ → ReadErr → Type 0
TakesBeforeRefusal old new limit Failed = TakesUpTo old new limit
TakesBeforeRefusal old new limit TooLong = TakesExactly old new (limit + 1)
TakesBeforeRefusal old new limit Memory = TakesUpTo old new (limit + 1)
