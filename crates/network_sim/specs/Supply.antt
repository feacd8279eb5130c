-- The second pass of a period, as a function of what the nodes hold: units come in, are made up, and go out.
use Rattle.std.specs.Prelude.{◌≡◌, ℕ, zero, suc, ◌<◌, ◌≤◌, Bool, List, [], ◌∷◌, length, Option, Some, None, ⊤}
use Rattle.std.proofs.Common.{get_or}
use Rattle.std.proofs.Math.ListN.{set}
use Rattle.network_model.specs.declared.network.NodeSpec.{NodeSpec}
use Rattle.network_model.specs.Nodes.{node_at, no_link}
use Rattle.node_state.specs.Holdings.{Holding, Leg, no_leg, no_claim, leg_received, finished, served}
use Rattle.node_state.specs.Totals.{slot}
use Rattle.network_sim.specs.declared.links.Supplier.{Supplier}
use Rattle.network_sim.specs.declared.station.Station.{Station}
use Rattle.network_sim.specs.Machine.{node, station}

-- what the supplier of a node's source ships to it in this period
abbrev pub shipped_from_place : List Holding → ℕ → ℕ → ℕ → Option ℕ → ℕ
shipped_from_place nodes i source slot None = get_or (get_or (node nodes i).legs source no_leg).way 0 0
shipped_from_place nodes i source slot (Some k) = (get_or (node nodes k).claims slot no_claim).sent

abbrev pub shipped_now : List Holding → ℕ → ℕ → Supplier → ℕ
shipped_now nodes i source s = shipped_from_place nodes i source s.slot s.from

-- a supplier is outside, or a later node with that slot
abbrev pub IsPlace : List Holding → ℕ → ℕ → Option ℕ → Type 0
IsPlace nodes i slot None = ⊤
IsPlace nodes i slot (Some k) = (i < k) × (k < length nodes) × (slot < length (node nodes k).claims)

-- the units of the sources from one place on
abbrev pub shipments : List Holding → ℕ → ℕ → List Supplier → List ℕ
shipments nodes i source [] = []
shipments nodes i source (s ∷ ss) = shipped_now nodes i source s ∷ shipments nodes i (suc source) ss

abbrev pub arrived : Bool → List ℕ → List Leg → List Leg
arrived paused [] ls = ls
arrived paused (u ∷ us) [] = []
arrived paused (u ∷ us) (l ∷ ls) = leg_received u paused l ∷ arrived paused us ls

abbrev pub with_arrived : Bool → Holding → List ℕ → Holding
with_arrived paused h us = record h { legs = arrived paused us h.legs }

pub record CanSupply (nodes : List Holding) (i : ℕ) (suppliers : List Supplier) : Type 0 where
  pub is_node : i < length nodes
  pub one_each : length suppliers ≡ length (node nodes i).legs
  pub places : (s : ℕ) (d : Supplier) → s < length suppliers → IsPlace nodes i (get_or suppliers s d).slot (get_or suppliers s d).from
  pub lacking : (s : ℕ) (d : Supplier) → s < length suppliers → shipped_now nodes i s (get_or suppliers s d) ≤ (get_or (node nodes i).legs s no_leg).lacking

abbrev pub supplied_node : List Holding → ℕ → List Supplier → Bool → Bool → Holding
supplied_node nodes i suppliers no_receipts no_shipments =
    served (finished (with_arrived no_receipts (node nodes i) (shipments nodes i 0 suppliers))) no_shipments

-- the nodes below place i are supplied, from the last to the first
abbrev pub supply_down : (ℕ → List Supplier) → (ℕ → Bool) → (ℕ → Bool) → List Holding → ℕ → List Holding
supply_down suppliers no_receipts no_shipments nodes zero = nodes
supply_down suppliers no_receipts no_shipments nodes (suc i) =
    supply_down suppliers no_receipts no_shipments (set nodes i (supplied_node nodes i (suppliers i) (no_receipts i) (no_shipments i))) i

abbrev pub CanSupplyDown : (ℕ → List Supplier) → (ℕ → Bool) → (ℕ → Bool) → List Holding → ℕ → Type 0
CanSupplyDown suppliers no_receipts no_shipments nodes zero = ⊤
CanSupplyDown suppliers no_receipts no_shipments nodes (suc i) =
    CanSupply nodes i (suppliers i) × CanSupplyDown suppliers no_receipts no_shipments (set nodes i (supplied_node nodes i (suppliers i) (no_receipts i) (no_shipments i))) i

abbrev pub suppliers_at : List Station → ℕ → List Supplier
suppliers_at stations i = (station stations i).suppliers

-- the slot of node i at its supplier
abbrev pub IsSlot : List NodeSpec → ℕ → ℕ → Option ℕ → Type 0
IsSlot nodes i place None = ⊤
IsSlot nodes i place (Some k) = place ≡ slot nodes k i

-- the suppliers of node i are those of the network
pub record AreSuppliersOf (nodes : List NodeSpec) (i : ℕ) (suppliers : List Supplier) : Type 0 where
  pub one_each : length suppliers ≡ length (node_at nodes i).sources
  pub same : (s : ℕ) (d : Supplier) → s < length suppliers → (get_or suppliers s d).from ≡ (get_or (node_at nodes i).sources s no_link).from
  pub slots : (s : ℕ) (d : Supplier) → s < length suppliers → IsSlot nodes i (get_or suppliers s d).slot (get_or suppliers s d).from
