-- What the sources in memory do at each read.
use Rattle.std.specs.Prelude.{◌≡◌, ◌↔◌, ℕ, min, List, length, Result, IsErr, IfOk, Contains}
use Rattle.stock_edge.specs.declared.Failed.{Failed}
use Rattle.stock_edge.specs.Causes.{next_count, faults_after}

-- a source whose listed calls fail
pub record SourceState : Type 0 where
  -- the bytes that are left
  pub left : List ℕ
  -- how many bytes one read gives at most
  pub most : ℕ
  -- the numbers of the reads that fail, from 1
  pub fails : List ℕ
  -- how many reads there were
  pub calls : ℕ
  -- how many of them failed
  pub faults : ℕ

-- a source that never fails
pub record QuietState : Type 0 where
  -- the bytes that are left
  pub left : List ℕ
  -- how many bytes one read gives at most
  pub most : ℕ

-- how many bytes a read gives: as many as what is left, `most` and the buffer's room allow
abbrev pub given_count : List ℕ → ℕ → ℕ → ℕ
given_count left most room = min (min (length left) most) room

-- one read into a buffer with this much room
pub record ReadStep (old new : SourceState) (result : Result ℕ Failed) (room : ℕ) : Type 0 where
  pub calls : new.calls ≡ next_count old.calls
  pub most : new.most ≡ old.most
  pub fails : new.fails ≡ old.fails
  pub failed : IsErr result ↔ Contains old.fails new.calls
  pub count : IfOk result (λ n. n ≡ given_count old.left old.most room)
  pub faults : new.faults ≡ faults_after old.faults result
