use Rattle.std.proofs.Common.{◌≡◌, ℕ, ◌+◌, ◌^◌, ◌<◌, ◌≤◌, ◌++◌, map, take, drop, length, slice_index, slice_index_or}
use Rattle.node_state.specs.Holdings.{Leg, leg_placed, push_ring}
use Rattle.node_state.proofs.legs.place_all.Given as goal

abbrev pub invariant-loop-i : goal.invariant-loop-i
invariant-loop-i l =
    (take l.i l.legs ++ map (leg_placed l.order) (drop l.i l.legs) ≡ map (leg_placed l.order) l.initial.legs)
    × ((k : ℕ) (d : Leg) → l.i ≤ k → k < length l.legs → (slice_index_or l.legs k d).lacking + slice_index (push_ring (slice_index_or l.legs k d).way l.order) 0 < 2 ^ 64)
