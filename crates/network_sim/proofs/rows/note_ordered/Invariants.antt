use Rattle.std.proofs.Common.{◌≡◌, ℕ, ◌<◌, length, slice_index}
use Rattle.network_sim.specs.Machine.{node}
use Rattle.network_sim.proofs.rows.note_ordered.Given as goal

abbrev pub invariant-loop-i : goal.invariant-loop-i
invariant-loop-i l = record {
  all : length l.ordered ≡ length l.initial.ordered;
  each : (k : ℕ) → k < l.i → slice_index l.ordered k ≡ (node l.nodes k).ordered;
}
