-- Who orders from each node, and who supplies it, as the list of nodes says.
use Rattle.std.specs.Prelude.{◌≡◌, ℕ, zero, suc, ◌<◌, cond, List, [], ◌∷◌, ◌++◌, length, map, Option, Some, None, ⊤}
use Rattle.std.proofs.Common.{get_or}
use Rattle.std.proofs.Math.ListN.{set}
use Rattle.network_model.specs.declared.network.NodeSpec.{NodeSpec}
use Rattle.network_model.specs.declared.network.Link.{Link}
use Rattle.network_model.specs.Nodes.{node_at, is_from}
use Rattle.network_sim.specs.declared.links.Caller.{Caller}
use Rattle.network_sim.specs.declared.links.Supplier.{Supplier}
use Rattle.network_sim.specs.Machine.{AreCallersOf}
use Rattle.network_sim.specs.Supply.{AreSuppliersOf}

-- node j as a caller of node i, over the links from number s on
abbrev pub callers_in : ℕ → ℕ → ℕ → List Link → List Caller
callers_in i j s [] = []
callers_in i j s (l ∷ ls) = cond (is_from i l.from) (record { node = j; source = s } ∷ callers_in i j (suc s) ls) (callers_in i j (suc s) ls)

-- the callers of node i among the first j nodes, in listed order
abbrev pub callers_upto : List NodeSpec → ℕ → ℕ → List Caller
callers_upto nodes i zero = []
callers_upto nodes i (suc j) = callers_upto nodes i j ++ callers_in i j 0 (node_at nodes j).sources

-- the slot of a claim is its place among those on the supplier
abbrev pub slot_among : (ℕ → List Caller) → Option ℕ → ℕ
slot_among callers None = 0
slot_among callers (Some k) = length (callers k)

abbrev pub supplier_of : (ℕ → List Caller) → Link → Supplier
supplier_of callers l = record { from = l.from; slot = slot_among callers l.from }

abbrev pub suppliers_of : List NodeSpec → ℕ → List Supplier
suppliers_of nodes i = map (supplier_of (λ k. callers_upto nodes k i)) (node_at nodes i).sources

-- the lists of callers and suppliers, one a node, are those of the network
pub record IsWiring (nodes : List NodeSpec) (callers : List (List Caller)) (suppliers : List (List Supplier)) : Type 0 where
  pub callers_each : length callers ≡ length nodes
  pub suppliers_each : length suppliers ≡ length nodes
  pub callers_of : (i : ℕ) → i < length nodes → AreCallersOf nodes i (get_or callers i [])
  pub suppliers_of_each : (i : ℕ) → i < length nodes → AreSuppliersOf nodes i (get_or suppliers i [])

-- ---- a node is entered with its suppliers, link by link
abbrev pub callers_of : List (List Caller) → ℕ → List Caller
callers_of lists k = get_or lists k []

abbrev pub with_caller : Caller → Option ℕ → List (List Caller) → List (List Caller)
with_caller c None lists = lists
with_caller c (Some k) lists = set lists k (callers_of lists k ++ c ∷ [])

abbrev pub with_callers : ℕ → ℕ → List Link → List (List Caller) → List (List Caller)
with_callers j s [] lists = lists
with_callers j s (l ∷ ls) lists = with_callers j (suc s) ls (with_caller (record { node = j; source = s }) l.from lists)

abbrev pub suppliers_among : ℕ → ℕ → List Link → List (List Caller) → List Supplier
suppliers_among j s [] lists = []
suppliers_among j s (l ∷ ls) lists = supplier_of (callers_of lists) l ∷ suppliers_among j (suc s) ls (with_caller (record { node = j; source = s }) l.from lists)

-- outside, or one of n nodes
abbrev pub IsAmong : ℕ → Option ℕ → Type 0
IsAmong n None = ⊤
IsAmong n (Some k) = k < n

abbrev pub no_callers : ℕ → List (List Caller)
no_callers zero = []
no_callers (suc n) = [] ∷ no_callers n
