use Rattle.std.proofs.Common.{◌≡◌, ℕ, ◌<◌, ◌≤◌, length, slice_index}
use Rattle.network_model.specs.Nodes.{top_of}
use Rattle.node_state.specs.Draws.{demand_of, after_words, word_at}
use Rattle.network_sim.specs.Machine.{station, drawn_in}
use Rattle.network_sim.proofs.draws.draw_demands.Given as goal

abbrev pub invariant-loop-i : goal.invariant-loop-i
invariant-loop-i l = record {
  all : length l.demands ≡ length l.initial.demands;
  words : l.words ≡ after_words l.initial.words (drawn_in l.stations l.i);
  each : (k : ℕ) → k < l.i → slice_index l.demands k ≡ demand_of (station l.stations k).demand l.t (word_at l.initial.words (drawn_in l.stations k));
  small : (k : ℕ) → k < l.i → slice_index l.demands k ≤ top_of (station l.stations k).demand;
}
