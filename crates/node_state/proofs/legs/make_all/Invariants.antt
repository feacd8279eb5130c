use Rattle.std.proofs.Common.{◌≡◌, ℕ, ◌<◌, ◌≤◌, ◌++◌, map, take, drop, length, slice_index_or}
use Rattle.node_state.specs.Holdings.{Leg, leg_made}
use Rattle.node_state.proofs.legs.make_all.Given as goal

abbrev pub invariant-loop-i : goal.invariant-loop-i
invariant-loop-i l =
    (take l.i l.legs ++ map (leg_made l.units) (drop l.i l.legs) ≡ map (leg_made l.units) l.initial.legs)
    × ((k : ℕ) (d : Leg) → l.i ≤ k → k < length l.legs → l.units ≤ (slice_index_or l.legs k d).raw)
