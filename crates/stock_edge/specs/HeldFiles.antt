-- What files hold, what a read of them answers, and when it may fail.
use Rattle.std.specs.Prelude.{◌≡◌, ℕ, ◌-◌, ◌<◌, ◌≤◌, min, List, length, take, drop, Some, None, Result, Ok, Err, IsErrOf, IsSomeAnd, if◌then◌else◌}
use Rattle.std.specs.Map.{lookup}
use Rattle.std.specs.declared.option.Option.{Option}
use Rattle.std.specs.Option.{option_map, ok_or}
use Rattle.std.specs.Str.{bytes_eq}
use Rattle.stock_edge.specs.declared.FileFault.{FileFault}
use Rattle.stock_edge.specs.declared.FileFault.TheVariants.{Missing, Failed}
use Rattle.stock_edge.specs.Causes.{Rose, next_count}

-- the bytes of each name that is held
abbrev pub Held : Type 0
Held = List ℕ → Option (List ℕ)

-- each name with its bytes
abbrev pub NamedFiles : Type 0
NamedFiles = List (List ℕ × List ℕ)

-- what these files hold
abbrev pub held_in : NamedFiles → Held
held_in files = λ name. lookup (bytes_eq name) files

-- the files once these bytes are held under the name, in place of any before
abbrev pub held_with : Held → List ℕ → List ℕ → Held
held_with held name bytes = λ other. if bytes_eq name other then Some bytes else held other

-- the front of the buffer has the bytes of the file at the place, and none only at its end or with no room
pub record GivesPiece (file : List ℕ) (place : ℕ) (buf : List ℕ) (count : ℕ) : Type 0 where
  pub given : take count buf ≡ take count (drop place file)
  pub end : count ≡ 0 → 0 < length buf → length file ≤ place

-- a piece of the file of that name, which is held, where the files tell what they hold
abbrev pub GivesHeld : Option Held → List ℕ → ℕ → List ℕ → ℕ → Type 0
GivesHeld None name place buf count = Unit {0}
GivesHeld (Some held) name place buf count = IsSomeAnd (held name) (λ file. GivesPiece file place buf count)

-- the name isn't held, where the files tell what they hold
abbrev pub IsNotHeld : Option Held → List ℕ → Type 0
IsNotHeld None name = Unit {0}
IsNotHeld (Some held) name = held name ≡ None

-- the count of faults never falls, rises where a read failed, and stays where a file is missing
pub record HasFileCause {T : Type 0} (before now : ℕ) (result : Result T FileFault) : Type 0 where
  pub later : before ≤ now
  pub failed : IsErrOf result Failed → Rose before now
  pub missing : IsErrOf result Missing → now ≡ before

-- the count of faults after a read that counts each of them; a missing file is none
abbrev pub file_faults_after : {T : Type 0} → ℕ → Result T FileFault → ℕ
file_faults_after before (Ok _) = before
file_faults_after before (Err Missing) = before
file_faults_after before (Err Failed) = next_count before

-- how many bytes a read gives: as many as the rest of the file from the place and the buffer's room allow
abbrev pub piece_count : List ℕ → ℕ → ℕ → ℕ
piece_count file place room = min (length file - place) room

-- what a read into a buffer with this much room answers where nothing fails
abbrev pub read_answer : Held → List ℕ → ℕ → ℕ → Result ℕ FileFault
read_answer held name place room = ok_or (option_map (λ file. piece_count file place room) (held name)) Missing
