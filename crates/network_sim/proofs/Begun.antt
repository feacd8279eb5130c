-- What a simulator holds before the first period.
use Rattle.std.proofs.Common.{◌≡◌, ℕ, zero, suc, ◌<◌, List, length, replicate, refl, sym, ◌∙◌, ap, arith, get_or}
use Rattle.network_model.specs.declared.network.Network.{Network}
use Rattle.network_model.specs.declared.network.Pause.{Pause}
use Rattle.network_model.specs.Nodes.{node_at}
use Rattle.network_model.specs.Network.{IsValidNetwork}
use Rattle.network_model.specs.Pauses.{is_paused}
use Rattle.node_state.specs.Holdings.{Holding, new_holding, legs_of}
use Rattle.node_state.specs.Sound.{length-map_of}
use Rattle.node_state.specs.Handed.{Handed}
use Rattle.node_state.specs.Totals.{Setting, claims_on}
use Rattle.node_state.specs.Table.{orders_of_run, served_of_run}
use Rattle.network_sim.specs.declared.station.Station.{Station}
use Rattle.network_sim.specs.declared.state.State.{State}
use Rattle.network_sim.specs.Machine.{node, station}
use Rattle.network_sim.specs.Simulated.{AreStationsOf, Holds, AreDemanded, IsStateAfter}
use Rattle.network_sim.specs.ValidNetworks.{shaped_nodes, loaded}
use Rattle.network_sim.specs.TableRun.{table_is_run}
use Rattle.network_sim.proofs.Start.{start_is}

module _ (net : Network) (valid : IsValidNetwork net) (demand : ℕ → ℕ → ℕ) (handed : List Handed) where
  abbrev setting : Setting
  setting = record { network = net; demand = demand; handed = handed }

  pub new_holds : (stations : List Station) (nodes : List Holding) → AreStationsOf net stations → length nodes ≡ length net.nodes →
      ((k : ℕ) → k < length net.nodes → node nodes k ≡ new_holding (node_at net.nodes k).initial (legs_of (node_at net.nodes k).sources) (length (station stations k).callers)) →
      Holds setting 0 nodes
  new_holds stations nodes are all each = record {
    all = all;
    each = λ k lt.
        each k lt
        ∙ ap (new_holding (node_at net.nodes k).initial (legs_of (node_at net.nodes k).sources)) (count k lt)
        ∙ sym (start_is setting (orders_of_run setting) (served_of_run setting) (table_is_run setting (shaped_nodes net valid.shaped)) (shaped_nodes net valid.shaped) k lt);
  }
    where
      count : (k : ℕ) → k < length net.nodes → length (station stations k).callers ≡ length (claims_on net.nodes (orders_of_run setting) k 0)
      count k lt = sym (ap length ((are.each k lt).callers.claims (orders_of_run setting) 0) ∙ length-map_of _ (station stations k).callers)

  pub begun : (state : State) → Holds setting 0 state.nodes.items → AreStationsOf net state.stations.items → AreDemanded setting 0 state.demanded.items → ((what : Pause) (i t : ℕ) → is_paused state.calendar what i t ≡ is_paused net.pauses what i t) →
      length state.ordered.items ≡ length net.nodes →
      length state.paused.orders.items ≡ length net.nodes →
      length state.paused.receipts.items ≡ length net.nodes →
      length state.paused.shipments.items ≡ length net.nodes →
      state.periods ≡ net.periods → state.played ≡ 0 → state.total ≡ 0 → IsStateAfter setting 0 state
  begun state holds stations so_far calendar ordered orders receipts shipments periods played total = record {
    shaped = shaped_nodes net valid.shaped;
    loaded = loaded net valid;
    few_nodes = (let a = valid.readable.few_nodes in omega arith);
    few_periods = (let a = valid.readable.few_periods in omega arith);
    fed = λ i t lt less. absurd (omega arith);
    within = omega arith;
    holds = holds;
    stations = stations;
    demanded = so_far;
    pauses = calendar;
    ordered_room = ordered;
    orders_room = orders;
    receipts_room = receipts;
    shipments_room = shipments;
    periods = periods;
    played = played;
    total = total;
    few_total = omega arith;
  }

all_same : (n k z : ℕ) → get_or (replicate n z) k z ≡ z
all_same zero k z = refl
all_same (suc n) zero z = refl
all_same (suc n) (suc k) z = all_same n k z

pub replicate_length : (n z : ℕ) → length (replicate n z) ≡ n
replicate_length zero z = refl
replicate_length (suc n) z = ap suc (replicate_length n z)

pub nothing_demanded : (net : Network) (demand : ℕ → ℕ → ℕ) (handed : List Handed) (n z : ℕ) (xs : List ℕ) → z ≡ 0 → xs ≡ replicate n z → n ≡ length net.nodes →
    AreDemanded (record { network = net; demand = demand; handed = handed }) 0 xs
nothing_demanded net demand handed n z xs none e all = record {
  all = ap length e ∙ replicate_length n z ∙ all;
  each = λ k lt. ap (λ d. get_or xs k d) (sym none) ∙ ap (λ ys. get_or ys k z) e ∙ all_same n k z ∙ none;
}
