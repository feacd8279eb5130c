use Rattle.std.proofs.Common.{◌≡◌, ℕ, ◌<◌, ◌≤◌, ◌^◌, length, slice_index, slice_index_or}
use Rattle.network_sim.specs.Machine.{node, station, no_line, line_of}
use Rattle.network_sim.proofs.rows.write_lines.Given as goal

abbrev pub invariant-loop-i : goal.invariant-loop-i
invariant-loop-i l = record {
  all : length l.lines ≡ length l.initial.lines;
  each : (k : ℕ) → k < l.i → slice_index_or l.lines k no_line ≡ line_of (station l.stations k) (slice_index l.ordered k) (node l.nodes k);
  small : (k : ℕ) → k < l.i → (slice_index_or l.lines k no_line).cost ≤ 2 ^ 85;
}
