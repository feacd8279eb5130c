use Rattle.std.proofs.Common.{◌≡◌, ℕ, ◌+◌, ◌<◌, ◌≤◌, length, slice_index}
use Rattle.network_sim.proofs.rows.add_demands.Given as goal

abbrev pub invariant-loop-i : goal.invariant-loop-i
invariant-loop-i l = record {
  all : length l.demanded ≡ length l.initial.demanded;
  done : (k : ℕ) → k < l.i → slice_index l.demanded k ≡ slice_index l.initial.demanded k + slice_index l.demands k;
  rest : (k : ℕ) → l.i ≤ k → slice_index l.demanded k ≡ slice_index l.initial.demanded k;
}
