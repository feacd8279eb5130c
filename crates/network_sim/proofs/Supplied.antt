-- One node supplied, and all of them from the last to the first.
use Rattle.std.proofs.Common.{◌≡◌, ℕ, suc, ◌<◌, Bool, List, length, sym, ◌∙◌, ap, subst, get_or}
use Rattle.std.proofs.Math.ListN.{set}
use Rattle.std.proofs.lemmas.List.{get_or-set_same, set-set}
use Rattle.network_sim.specs.declared.links.Supplier.{Supplier}
use Rattle.node_state.specs.Holdings.{Holding, finished, served}
use Rattle.network_sim.specs.Machine.{node}
use Rattle.network_sim.specs.Supply.{shipments, with_arrived, CanSupply, supplied_node, supply_down, CanSupplyDown}

pub supplied_is : (before now : List Holding) (i : ℕ) (suppliers : List Supplier) (a b : Bool) (d m s : Holding) → i < length before →
    now ≡ set before i (with_arrived a (node before i) (shipments before i 0 suppliers)) → m ≡ finished (get_or now i d) → s ≡ served m b →
    set now i s ≡ set before i (supplied_node before i suppliers a b)
supplied_is before now i suppliers a b d m s lt e made sent =
    ap (set now i) (sent ∙ ap (λ h. served h b) (made ∙ ap finished (ap (λ xs. get_or xs i d) e ∙ get_or-set_same before i _ d lt)))
    ∙ ap (λ xs. set xs i (supplied_node before i suppliers a b)) e
    ∙ set-set before i _ _

module _ (suppliers : ℕ → List Supplier) (a b : ℕ → Bool) where
  pub can_next : (nodes new : List Holding) (i j : ℕ) (cs : List Supplier) → i ≡ suc j → cs ≡ suppliers j → new ≡ set nodes j (supplied_node nodes j cs (a j) (b j)) →
      CanSupplyDown suppliers a b nodes i → CanSupplyDown suppliers a b new j
  can_next nodes new i j cs e q made can =
      let here = subst (CanSupplyDown suppliers a b nodes) e can in
      subst (λ ns. CanSupplyDown suppliers a b ns j) (sym (made ∙ ap (λ k. set nodes j (supplied_node nodes j k (a j) (b j))) q)) here.1

  pub can_here : (nodes : List Holding) (i j : ℕ) (cs : List Supplier) → i ≡ suc j → cs ≡ suppliers j → CanSupplyDown suppliers a b nodes i → CanSupply nodes j cs
  can_here nodes i j cs e q can =
      let here = subst (CanSupplyDown suppliers a b nodes) e can in
      subst (CanSupply nodes j) (sym q) here.0

  pub down_next : (nodes new all : List Holding) (i j : ℕ) (cs : List Supplier) → i ≡ suc j → cs ≡ suppliers j → new ≡ set nodes j (supplied_node nodes j cs (a j) (b j)) →
      supply_down suppliers a b nodes i ≡ all → supply_down suppliers a b new j ≡ all
  down_next nodes new all i j cs e q made is =
      ap (λ ns. supply_down suppliers a b ns j) (made ∙ ap (λ k. set nodes j (supplied_node nodes j k (a j) (b j))) q)
      ∙ sym (ap (supply_down suppliers a b nodes) e) ∙ is
