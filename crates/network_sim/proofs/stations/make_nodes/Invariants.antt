use Rattle.std.proofs.Common.{◌≡◌, ℕ, ◌<◌, length}
use Rattle.network_model.specs.Nodes.{node_at}
use Rattle.node_state.specs.Holdings.{new_holding, legs_of}
use Rattle.network_sim.specs.Machine.{node, station}
use Rattle.network_sim.proofs.stations.make_nodes.Given as goal

abbrev pub invariant-loop-place : goal.invariant-loop-place
invariant-loop-place l = record {
  all : length l.nodes.items ≡ l.place;
  each : (k : ℕ) → k < l.place → node l.nodes.items k ≡ new_holding (node_at l.network.nodes k).initial (legs_of (node_at l.network.nodes k).sources) (length (station l.stations k).callers);
}
