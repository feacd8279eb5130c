use Rattle.std.proofs.Common.{◌≡◌, ℕ, ◌<◌, ◌≤◌, [], length, get_or}
use Rattle.network_sim.specs.Machine.{station, AreCallersOf}
use Rattle.network_sim.specs.Supply.{AreSuppliersOf}
use Rattle.network_sim.specs.Simulated.{IsStationOf}
use Rattle.network_sim.proofs.stations.find_stations.Given as goal

abbrev pub invariant-loop-place : goal.invariant-loop-place
invariant-loop-place l = record {
  callers_each : length l.wiring.callers.items ≡ length l.network.nodes;
  suppliers_each : length l.wiring.suppliers.items ≡ length l.network.nodes;
  callers : (k : ℕ) → l.place ≤ k → k < length l.network.nodes → AreCallersOf l.network.nodes k (get_or l.wiring.callers.items k []);
  suppliers : (k : ℕ) → l.place ≤ k → k < length l.network.nodes → AreSuppliersOf l.network.nodes k (get_or l.wiring.suppliers.items k []);
  all : length l.stations.items ≡ l.place;
  each : (k : ℕ) → k < l.place → IsStationOf l.network k (station l.stations.items k);
}
