-- The fields of a sink in memory.
use Rattle.std.specs.Prelude.{◌<◌, ◌≤◌, length}
use Rattle.std.specs.Vec.{vec_capacity}
use Rattle.stock_edge.specs.declared.memory_sinks.MemSink.TheInside.{Inside}
use Rattle.stock_edge.specs.MemorySinks.{SinkState, QuietWithRoom}

-- what contracts see of the fields
abbrev pub state_of : Inside → SinkState
state_of s = record { held = s.held.items; most = s.most; fails = s.fails.items; room = s.room; calls = s.calls; faults = s.faults }

-- each write takes a byte at least where there is room, and the room was reserved
pub record IsSound (s : Inside) : Type 0 where
  pub takes_some : 0 < s.most
  pub within : length s.held.items ≤ s.room
  pub reserved : s.room ≤ vec_capacity s.held
  pub quiet : QuietWithRoom (state_of s)
