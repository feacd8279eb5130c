-- What the files in memory do at each read.
use Rattle.std.specs.Prelude.{◌≡◌, ◌↔◌, ℕ, List, Result, IsErrOf, Contains}
use Rattle.stock_edge.specs.declared.FileFault.{FileFault}
use Rattle.stock_edge.specs.declared.FileFault.TheVariants.{Failed}
use Rattle.stock_edge.specs.Causes.{next_count}
use Rattle.stock_edge.specs.HeldFiles.{NamedFiles, held_in, held_with, file_faults_after, read_answer}

-- files whose listed reads fail
pub record FilesState : Type 0 where
  -- each name that is held, with its bytes
  pub files : NamedFiles
  -- the numbers of the reads that fail, from 1
  pub fails : List ℕ
  -- how many reads there were
  pub calls : ℕ
  -- how many of them failed
  pub faults : ℕ

-- one read of the name from the place on, into a buffer with this much room
pub record FileReadStep (old new : FilesState) (result : Result ℕ FileFault) (name : List ℕ) (place room : ℕ) : Type 0 where
  pub calls : new.calls ≡ next_count old.calls
  pub files : new.files ≡ old.files
  pub fails : new.fails ≡ old.fails
  pub failed : IsErrOf result Failed ↔ Contains old.fails new.calls
  pub answer : ¬ (IsErrOf result Failed) → result ≡ read_answer (held_in old.files) name place room
  pub faults : new.faults ≡ file_faults_after old.faults result

-- these bytes are held under the name from now on, and all else stays
pub record AddsFile (old new : FilesState) (name bytes : List ℕ) : Type 0 where
  pub held : held_in new.files ≡ held_with (held_in old.files) name bytes
  pub fails : new.fails ≡ old.fails
  pub calls : new.calls ≡ old.calls
  pub faults : new.faults ≡ old.faults
