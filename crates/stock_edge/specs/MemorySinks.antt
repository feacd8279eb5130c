-- What the sink in memory does at each write.
use Rattle.std.specs.Prelude.{◌≡◌, ◌↔◌, ◌⊎◌, ℕ, ◌-◌, ◌<◌, ◌≤◌, min, List, [], length, Result, IsErr, IfOk, Contains}
use Rattle.stock_edge.specs.declared.Failed.{Failed}
use Rattle.stock_edge.specs.Causes.{next_count, faults_after}

-- a sink of stated room whose listed calls fail
pub record SinkState : Type 0 where
  -- the bytes that were written
  pub held : List ℕ
  -- how many bytes one write takes at most
  pub most : ℕ
  -- the numbers of the writes that fail, from 1
  pub fails : List ℕ
  -- how many bytes it can hold
  pub room : ℕ
  -- how many writes there were
  pub calls : ℕ
  -- how many of them failed
  pub faults : ℕ

-- how many bytes of a piece a write takes: as many as the piece, `most` and the room that is left allow
abbrev pub taken_count : SinkState → ℕ → ℕ
taken_count sink size = min (min (sink.room - length sink.held) sink.most) size

-- no byte of room is left for a piece that isn't empty
abbrev pub IsFullFor : SinkState → ℕ → Type 0
IsFullFor sink size = (sink.room ≤ length sink.held) × (0 < size)

-- one write of a piece of this size
pub record WriteStep (old new : SinkState) (result : Result ℕ Failed) (size : ℕ) : Type 0 where
  pub calls : new.calls ≡ next_count old.calls
  pub most : new.most ≡ old.most
  pub fails : new.fails ≡ old.fails
  pub room : new.room ≡ old.room
  pub failed : IsErr result ↔ (Contains old.fails new.calls ⊎ IsFullFor old size)
  pub count : IfOk result (λ n. n ≡ taken_count old size)
  pub faults : new.faults ≡ faults_after old.faults result

-- where no write is listed to fail, none has failed as long as there is room
abbrev pub QuietWithRoom : SinkState → Type 0
QuietWithRoom sink = sink.fails ≡ [] → length sink.held < sink.room → sink.faults ≡ 0
