-- Demands of an example's own: the first node's customers ask for two units in period 1 and for three later, the second node has none.
use Rattle.std.proofs.Common.{◌≡◌, ℕ, zero, suc, ◌≤◌, List, [], ◌∷◌, length, sym, refl, cond, nat_lt, get_or, arith}
use Rattle.network_model.specs.declared.network.Network.{Network}
use Rattle.network_model.specs.Nodes.{node_at, top_of}
use Rattle.node_state.specs.Handed.{Handed}
use Rattle.node_state.specs.Totals.{Setting}
use Rattle.network_sim.specs.Simulated.{AreDemands}

abbrev pub asked : ℕ → ℕ → ℕ
asked i t = get_or (cond (nat_lt t 2) (2 ∷ 0 ∷ []) (3 ∷ 0 ∷ [])) i 0

abbrev pub with_demands : Network → List Handed → Setting
with_demands net handed = record { network = net; demand = asked; handed = handed }

pub at_first : (net : Network) → top_of (node_at net.nodes 0).demand ≡ 3 → (k : ℕ) → asked k 1 ≤ top_of (node_at net.nodes k).demand
at_first net top zero = omega (arith, top)
at_first net top (suc zero) = omega arith
at_first net top (suc (suc k)) = omega arith

pub then_more : (net : Network) → top_of (node_at net.nodes 0).demand ≡ 3 → (k : ℕ) → asked k 2 ≤ top_of (node_at net.nodes k).demand
then_more net top zero = omega (arith, top)
then_more net top (suc zero) = omega arith
then_more net top (suc (suc k)) = omega arith

pub first_demands : (net : Network) (handed : List Handed) → length net.nodes ≡ 2 → top_of (node_at net.nodes 0).demand ≡ 3 → AreDemands (with_demands net handed) 1 (2 ∷ 0 ∷ [])
first_demands net handed two top = record { all = sym two; each = λ k _. refl; few = λ k _. at_first net top k }

pub more_demands : (net : Network) (handed : List Handed) → length net.nodes ≡ 2 → top_of (node_at net.nodes 0).demand ≡ 3 → AreDemands (with_demands net handed) 2 (3 ∷ 0 ∷ [])
more_demands net handed two top = record { all = sym two; each = λ k _. refl; few = λ k _. then_more net top k }
