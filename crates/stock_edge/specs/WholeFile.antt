-- What a read of the whole file answers.
use Rattle.std.specs.Prelude.{◌≡◌, ℕ, ◌<◌, List, length, Some, None, IsSomeAnd}
use Rattle.std.specs.declared.option.Option.{Option}
use Rattle.stock_edge.specs.declared.whole_file.FileErr.{FileErr}
use Rattle.stock_edge.specs.declared.whole_file.FileErr.TheVariants.{Missing, Failed, TooLong, Memory}
use Rattle.stock_edge.specs.HeldFiles.{Held, IsNotHeld}

-- these are all the bytes of the file of that name, where the files tell what they hold
abbrev pub IsWholeFile : Option Held → List ℕ → List ℕ → Type 0
IsWholeFile None name bytes = Unit {0}
IsWholeFile (Some held) name bytes = held name ≡ Some bytes

-- the file of that name, which is held, has more bytes than the limit, where the files tell what they hold
abbrev pub IsLongerThan : Option Held → List ℕ → ℕ → Type 0
IsLongerThan None name limit = Unit {0}
IsLongerThan (Some held) name limit = IsSomeAnd (held name) (λ file. limit < length file)

-- why a read of at most limit bytes is refused, as far as the files tell
abbrev pub RefusesFile : Option Held → List ℕ → ℕ → FileErr → Type 0
RefusesFile held name limit Missing = IsNotHeld held name
RefusesFile held name limit TooLong = IsLongerThan held name limit
RefusesFile held name limit Failed = Unit {0}
RefusesFile held name limit Memory = Unit {0}
