-- The second pass takes all nodes from ordered to rest, and can.
use Rattle.std.proofs.Common.{◌≡◌, ℕ, zero, suc, ◌+◌, ◌-◌, ◌<◌, ◌≤◌, Bool, List, [], ◌∷◌, length, drop, map, refl, sym, ◌∙◌, ap, subst, arith, get_or, ◌⊎◌, inl, inr, Option, Some, None, add-zero, zero-add}
use Rattle.std.specs.List.{All}
use Rattle.std.proofs.Math.ListN.{set}
use Rattle.std.proofs.lemmas.Bool.{cases_lt}
use Rattle.std.proofs.lemmas.List.{get_or-set_same, get_or-set_other, length-set}
use Rattle.std.proofs.lemmas.List.Elements.{All-head, All-tail, All-get_or}
use Rattle.network_sim.specs.declared.links.Supplier.{Supplier}
use Rattle.node_state.specs.Holdings.{Holding, Leg, no_holding, no_leg, no_claim, leg_received, finished, served}
use Rattle.node_state.specs.Totals.{Setting, spec_at, slot, before, shipped, shipped_from, received, claims_on, IsRun, IsSource, IsShaped, receipts_paused, shipments_paused}
use Rattle.node_state.specs.Stands.{gain, window, held, leg_ordered, leg_in, at_rest, at_ordered}
use Rattle.network_sim.specs.Machine.{node}
use Rattle.network_sim.specs.Supply.{shipped_from_place, shipped_now, IsPlace, IsSlot, shipments, arrived, with_arrived, CanSupply, supplied_node, supply_down, CanSupplyDown, AreSuppliersOf}
use Rattle.network_sim.specs.Windows.{gained, first_is}
use Rattle.node_state.specs.Sound.{length-map_of}
use Rattle.network_sim.specs.Steady.{IsSteadyLeg, least_most}
use Rattle.network_sim.proofs.Phases.{leg_in_is, made_phase, served_phase}
use Rattle.network_sim.proofs.Lists.{map_at}
use Rattle.network_sim.proofs.Passes.{held_length}
use Rattle.network_sim.specs.Runs.{steady, steady_legs, orders_up, slot_at}
use Rattle.network_model.specs.declared.network.Link.{Link}
use Rattle.network_model.specs.Nodes.{no_link}

same_lists : (xs ys : List ℕ) → length xs ≡ length ys → ((k : ℕ) → k < length xs → get_or xs k 0 ≡ get_or ys k 0) → xs ≡ ys
same_lists [] [] e h = refl
same_lists [] (y ∷ ys) e h = absurd (omega arith)
same_lists (x ∷ xs) [] e h = absurd (omega arith)
same_lists (x ∷ xs) (y ∷ ys) e h = λ j. h 0 (omega arith) j ∷ same_lists xs ys (omega arith) (λ k lt. h (suc k) (omega arith)) j

held_sent : (cs vs us : List ℕ) (k : ℕ) → k < length cs → (get_or (held cs vs us) k no_claim).sent ≡ get_or vs k 0 - get_or us k 0
held_sent [] vs us k lt = absurd (omega arith)
held_sent (c ∷ cs) vs us zero lt = refl
held_sent (c ∷ cs) vs us (suc k) lt = held_sent cs (drop 1 vs) (drop 1 us) k (omega arith) ∙ (λ j. rest vs j - rest us j)
  where
    rest : (xs : List ℕ) → get_or (drop 1 xs) k 0 ≡ get_or xs (suc k) 0
    rest [] = refl
    rest (x ∷ xs) = refl

rest_at : (xs : List ℕ) (k : ℕ) → get_or (drop 1 xs) k 0 ≡ get_or xs (suc k) 0
rest_at [] k = refl
rest_at (x ∷ xs) k = refl

shipments_all : (nodes : List Holding) (i s : ℕ) (ss : List Supplier) → length (shipments nodes i s ss) ≡ length ss
shipments_all nodes i s [] = refl
shipments_all nodes i s (x ∷ ss) = ap suc (shipments_all nodes i (suc s) ss)

shipments_at : (nodes : List Holding) (i s : ℕ) (ss : List Supplier) (k : ℕ) (d : Supplier) → k < length ss → get_or (shipments nodes i s ss) k 0 ≡ shipped_now nodes i (s + k) (get_or ss k d)
shipments_at nodes i s [] k d lt = absurd (omega arith)
shipments_at nodes i s (x ∷ ss) zero d lt = ap (λ n. shipped_now nodes i n x) (sym (add-zero s))
shipments_at nodes i s (x ∷ ss) (suc k) d lt =
    shipments_at nodes i (suc s) ss k d (omega arith) ∙ ap (λ n. shipped_now nodes i n (get_or ss k d)) (omega arith)

arrived_map : (b : Bool) (u : Link → ℕ) (f g : Link → Leg) (ls : List Link) → All (λ l. leg_received (u l) b (f l) ≡ g l) ls → arrived b (map u ls) (map f ls) ≡ map g ls
arrived_map b u f g [] p = refl
arrived_map b u f g (l ∷ ls) p = λ j. All-head (λ l. leg_received (u l) b (f l) ≡ g l) l ls p j ∷ arrived_map b u f g ls (All-tail (λ l. leg_received (u l) b (f l) ≡ g l) l ls p) j

module _ (setting : Setting) (O : ℕ → ℕ → ℕ) (V : ℕ → ℕ → List ℕ) (r : IsRun setting O V) (shape : IsShaped setting.network.nodes) (t : ℕ)
    (suppliers : ℕ → List Supplier) (are : (i : ℕ) → i < length setting.network.nodes → AreSuppliersOf setting.network.nodes i (suppliers i)) where
  -- the nodes from place i on are at rest in the next period
  pub record HaveSupplied (i : ℕ) (ns : List Holding) : Type 0 where
    pub all : length ns ≡ length setting.network.nodes
    pub waiting : (k : ℕ) → k < i → k < length setting.network.nodes → node ns k ≡ at_ordered setting O V t k
    pub done : (k : ℕ) → i ≤ k → k < length setting.network.nodes → node ns k ≡ at_rest setting O V (suc t) k

  module _ (i : ℕ) (lt : i < length setting.network.nodes) (ns : List Holding) (h : HaveSupplied (suc i) ns) where
    -- a slot is one of the supplier's claims
    slot_in : (order_lead k : ℕ) → IsSource setting.network.nodes i order_lead (Some k) → slot setting.network.nodes k i < length (claims_on setting.network.nodes O k (suc t))
    slot_in order_lead k p = (slot_at setting O k (suc t) i (O i (before order_lead (suc t))) k (p.2 (O i) (suc t)) p.0).0

    units_by : (s place : ℕ) (l : Link) (from : Option ℕ) → get_or (spec_at setting i).sources s no_link ≡ l → s < length (spec_at setting i).sources → from ≡ l.from → IsSlot setting.network.nodes i place from → IsSource setting.network.nodes i l.order_lead from →
        shipped_from_place ns i s place from ≡ gain (λ u. shipped_from setting O V i from l.order_lead u) (suc t)
    units_by s place l None e in_s q sl p =
        ap (λ (k : Holding). get_or (get_or k.legs s no_leg).way 0 0) (h.waiting i (omega arith) lt)
        ∙ ap (λ (m : Leg). get_or m.way 0 0) (map_at (leg_ordered setting O V i t) (spec_at setting i).sources s no_link no_leg in_s)
        ∙ ap (λ (m : Link). get_or (window (O i) m.order_lead (suc t)) 0 0) e
        ∙ first_is (O i) l.order_lead (suc t)
        ∙ (let a = gained (O i) (orders_up setting O V r shape i lt) l.order_lead t in omega arith)
    units_by s place l (Some k) e in_s q sl p =
        ap (λ (m : Holding). (get_or m.claims place no_claim).sent) (h.done k (let a = p.0 in omega arith) p.1)
        ∙ ap (λ n. (get_or (held (claims_on setting.network.nodes O k (suc t)) (drop 1 (V k (suc t))) (drop 1 (V k t))) n no_claim).sent) sl
        ∙ held_sent (claims_on setting.network.nodes O k (suc t)) (drop 1 (V k (suc t))) (drop 1 (V k t)) (slot setting.network.nodes k i) (slot_in l.order_lead k p)
        ∙ (λ j. rest_at (V k (suc t)) (slot setting.network.nodes k i) j - rest_at (V k t) (slot setting.network.nodes k i) j)

    links : All (λ l. IsSource setting.network.nodes i l.order_lead l.from) (spec_at setting i).sources
    links = shape i lt

    units_is : (s : ℕ) (d : Supplier) → s < length (suppliers i) → shipped_now ns i s (get_or (suppliers i) s d) ≡ gain (shipped setting O V i (get_or (spec_at setting i).sources s no_link)) (suc t)
    units_is s d in_s =
        let in_l : s < length (spec_at setting i).sources = let a = (are i lt).one_each in omega arith in
        let from = (are i lt).same s d in_s in
        units_by s (get_or (suppliers i) s d).slot (get_or (spec_at setting i).sources s no_link) (get_or (suppliers i) s d).from refl in_l from ((are i lt).slots s d in_s)
        (subst (IsSource setting.network.nodes i (get_or (spec_at setting i).sources s no_link).order_lead) (sym from) (All-get_or (λ l. IsSource setting.network.nodes i l.order_lead l.from) (spec_at setting i).sources s no_link in_l links))
        ∙ ap (λ m. gain (λ u. shipped_from setting O V i m (get_or (spec_at setting i).sources s no_link).order_lead u) (suc t)) from

    any : Supplier
    any = record { from = None; slot = 0 }

    shipments_is : shipments ns i 0 (suppliers i) ≡ map (λ l. gain (shipped setting O V i l) (suc t)) (spec_at setting i).sources
    shipments_is =
        same_lists (shipments ns i 0 (suppliers i)) (map (λ l. gain (shipped setting O V i l) (suc t)) (spec_at setting i).sources)
        (shipments_all ns i 0 (suppliers i) ∙ (are i lt).one_each ∙ sym (length-map_of (λ l. gain (shipped setting O V i l) (suc t)) (spec_at setting i).sources))
        (λ k less. let in_s : k < length (suppliers i) = let a = shipments_all ns i 0 (suppliers i) in omega arith in
        shipments_at ns i 0 (suppliers i) k any in_s
        ∙ ap (λ n. shipped_now ns i n (get_or (suppliers i) k any)) (zero-add k)
        ∙ units_is k any in_s
        ∙ sym (map_at (λ l. gain (shipped setting O V i l) (suc t)) (spec_at setting i).sources k no_link 0 (let a = (are i lt).one_each in omega arith)))

    pub supplied_is : supplied_node ns i (suppliers i) (receipts_paused setting i (suc t)) (shipments_paused setting i (suc t)) ≡ at_rest setting O V (suc t) i
    supplied_is =
        ap (λ (m : Holding). served (finished m) (shipments_paused setting i (suc t)))
        ((λ j. with_arrived (receipts_paused setting i (suc t)) (h.waiting i (omega arith) lt j) (shipments_is j))
        ∙ (λ j. record (at_ordered setting O V t i) { legs = arrived_map (receipts_paused setting i (suc t)) (λ l. gain (shipped setting O V i l) (suc t)) (leg_ordered setting O V i t) (leg_in setting O V i t) (spec_at setting i).sources each j }))
        ∙ ap (λ (m : Holding). served m (shipments_paused setting i (suc t))) (made_phase setting O V i (steady setting O V r shape i lt) t)
        ∙ served_phase setting O V i (steady setting O V r shape i lt) t (r.served i t lt)
      where
        each : All (λ l. leg_received (gain (shipped setting O V i l) (suc t)) (receipts_paused setting i (suc t)) (leg_ordered setting O V i t l) ≡ leg_in setting O V i t l) (spec_at setting i).sources
        each = λ k d less. leg_in_is setting O V i (steady setting O V r shape i lt) t (get_or (spec_at setting i).sources k d) (steady_legs setting O V r shape i lt k d less) (least_most (λ l. received setting O V i l t) (spec_at setting i).sources k d less)

    pub can : CanSupply ns i (suppliers i)
    can = record {
      is_node = let a = h.all in omega arith;
      one_each = (are i lt).one_each ∙ sym (length-map_of (leg_ordered setting O V i t) (spec_at setting i).sources) ∙ sym (ap (λ (k : Holding). length k.legs) (h.waiting i (omega arith) lt));
      places = λ s d in_s. place s (get_or (suppliers i) s d).slot (get_or (suppliers i) s d).from ((are i lt).slots s d in_s)
          (subst (IsSource setting.network.nodes i (get_or (spec_at setting i).sources s no_link).order_lead) (sym ((are i lt).same s d in_s)) (All-get_or (λ l. IsSource setting.network.nodes i l.order_lead l.from) (spec_at setting i).sources s no_link (let a = (are i lt).one_each in omega arith) links));
      lacking = λ s d in_s. enough s d in_s;
    }
      where
        place : (s slot_of : ℕ) (from : Option ℕ) → IsSlot setting.network.nodes i slot_of from → IsSource setting.network.nodes i (get_or (spec_at setting i).sources s no_link).order_lead from → IsPlace ns i slot_of from
        place s slot_of None sl p = tt
        place s slot_of (Some k) sl p =
            let a = h.all in
            let b = slot_in (get_or (spec_at setting i).sources s no_link).order_lead k p in
            let e = ap (λ (m : Holding). length m.claims) (h.done k (let x = p.0 in omega arith) p.1) in
            let f = held_length (claims_on setting.network.nodes O k (suc t)) (drop 1 (V k (suc t))) (drop 1 (V k t)) in
            (p.0, let x = p.1 in omega arith, omega arith)

        enough : (s : ℕ) (d : Supplier) → s < length (suppliers i) → shipped_now ns i s (get_or (suppliers i) s d) ≤ (get_or (node ns i).legs s no_leg).lacking
        enough s d in_s =
            let in_l : s < length (spec_at setting i).sources = let a = (are i lt).one_each in omega arith in
            let a = units_is s d in_s in
            let b = ap (λ (k : Holding). (get_or k.legs s no_leg).lacking) (h.waiting i (omega arith) lt) ∙ ap (λ (m : Leg). m.lacking) (map_at (leg_ordered setting O V i t) (spec_at setting i).sources s no_link no_leg in_l) in
            let f = (All-get_or (IsSteadyLeg setting O V i) (spec_at setting i).sources s no_link in_l (steady_legs setting O V r shape i lt)).shipped_most (suc t) in
            omega arith

    pub next : HaveSupplied i (set ns i (supplied_node ns i (suppliers i) (receipts_paused setting i (suc t)) (shipments_paused setting i (suc t))))
    next = record {
      all = length-set ns i _ ∙ h.all;
      waiting = λ k less in_k. get_or-set_other ns i k _ no_holding (omega arith) ∙ h.waiting k (omega arith) in_k;
      done = λ k more in_k. by k in_k (cases_lt i k) more;
    }
      where
        by : (k : ℕ) → k < length setting.network.nodes → (i < k) ⊎ (k ≤ i) → i ≤ k → node (set ns i (supplied_node ns i (suppliers i) (receipts_paused setting i (suc t)) (shipments_paused setting i (suc t)))) k ≡ at_rest setting O V (suc t) k
        by k in_k (inl above) more = get_or-set_other ns i k _ no_holding (omega arith) ∙ h.done k (omega arith) in_k
        by k in_k (inr le) more =
            let same : i ≡ k = omega arith in
            subst (λ m. node (set ns i (supplied_node ns i (suppliers i) (receipts_paused setting i (suc t)) (shipments_paused setting i (suc t)))) m ≡ at_rest setting O V (suc t) m) same
            (get_or-set_same ns i _ no_holding (let a = h.all in omega arith) ∙ supplied_is)

  pub down_is : (i : ℕ) (ns : List Holding) → i ≤ length setting.network.nodes → HaveSupplied i ns →
      HaveSupplied 0 (supply_down suppliers (λ k. receipts_paused setting k (suc t)) (λ k. shipments_paused setting k (suc t)) ns i)
  down_is zero ns le h = h
  down_is (suc i) ns le h = down_is i _ (omega arith) (next i (omega arith) ns h)

  pub down_can : (i : ℕ) (ns : List Holding) → i ≤ length setting.network.nodes → HaveSupplied i ns →
      CanSupplyDown suppliers (λ k. receipts_paused setting k (suc t)) (λ k. shipments_paused setting k (suc t)) ns i
  down_can zero ns le h = tt
  down_can (suc i) ns le h = (can i (omega arith) ns h, down_can i _ (omega arith) (next i (omega arith) ns h))
