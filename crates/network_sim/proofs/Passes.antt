-- The first pass takes all nodes from rest to ordered, and has room for it.
use Rattle.std.proofs.Common.{◌≡◌, ℕ, zero, suc, ◌+◌, ◌-◌, ◌^◌, ◌<◌, ◌≤◌, cond, List, [], ◌∷◌, length, drop, map, refl, sym, ◌∙◌, ap, subst, arith, get_or, ◌⊎◌, inl, inr}
use Rattle.std.proofs.Math.ListN.{set}
use Rattle.std.proofs.lemmas.Bool.{cases_lt}
use Rattle.std.proofs.lemmas.List.{get_or-set_same, get_or-set_other, length-set}
use Rattle.std.proofs.lemmas.List.Elements.{All-weaker}
use Rattle.network_sim.specs.declared.links.Caller.{Caller}
use Rattle.node_state.specs.Holdings.{Holding, Leg, no_holding, no_leg, begun, with_claims, placed, total}
use Rattle.node_state.specs.Totals.{Setting, spec_at, before, position, claims_on, IsRun, IsShaped, IsLoaded, orders_paused, order_by, answer}
use Rattle.node_state.specs.Stands.{less, held, leg_ordered, at_rest, at_seen, at_ordered, served_before}
use Rattle.network_sim.specs.Machine.{node, front, fronts, noted_node, ordered_node, CanOrder, after_orders, AreCallersOf}
use Rattle.network_sim.specs.Windows.{gained, first_is}
use Rattle.node_state.specs.Sound.{length-map_of}
use Rattle.network_sim.proofs.Phases.{seen_phase, ordered_phase}
use Rattle.network_sim.specs.Runs.{steady, orders_up}
use Rattle.network_sim.proofs.Loads.{orders_most, noted_most}
use Rattle.network_model.specs.Nodes.{no_link}
use Rattle.network_sim.specs.Simulated.{IsFed}
use Rattle.network_sim.proofs.Lists.{map_at}
use Rattle.network_sim.specs.TableRun.{map_same}

less_map : (f g : Caller → ℕ) (cs : List Caller) → less (map f cs) (map g cs) ≡ map (λ c. f c - g c) cs
less_map f g [] = refl
less_map f g (c ∷ cs) = ap (λ xs. (f c - g c) ∷ xs) (less_map f g cs)

pub held_length : (cs vs us : List ℕ) → length (held cs vs us) ≡ length cs
held_length [] vs us = refl
held_length (c ∷ cs) vs us = ap suc (held_length cs (drop 1 vs) (drop 1 us))

module _ (setting : Setting) (O : ℕ → ℕ → ℕ) (V : ℕ → ℕ → List ℕ) (r : IsRun setting O V) (shape : IsShaped setting.network.nodes)
    (load : IsLoaded setting.network)
    (t : ℕ) (left : suc t ≤ setting.network.periods) (fed : IsFed setting (suc t))
    (order : ℕ → Holding → ℕ) (is_order : (i : ℕ) → i < length setting.network.nodes → order i (at_seen setting O V t i) ≡ order_by (spec_at setting i).rule (position setting O i t) (λ index. answer setting O i index t))
    (callers : ℕ → List Caller) (are : (i : ℕ) → i < length setting.network.nodes → AreCallersOf setting.network.nodes i (callers i)) where
  -- the first i nodes have ordered
  pub record HaveOrdered (i : ℕ) (ns : List Holding) : Type 0 where
    pub all : length ns ≡ length setting.network.nodes
    pub done : (k : ℕ) → k < i → k < length setting.network.nodes → node ns k ≡ at_ordered setting O V t k
    pub resting : (k : ℕ) → i ≤ k → k < length setting.network.nodes → node ns k ≡ at_rest setting O V t k

  module _ (i : ℕ) (lt : i < length setting.network.nodes) (ns : List Holding) (h : HaveOrdered i ns) where
    lead_of : Caller → ℕ
    lead_of c = (get_or (spec_at setting c.node).sources c.source no_link).order_lead

    front_is : (c : Caller) → (c.node < i) × (c.source < length (spec_at setting c.node).sources) →
        front ns c ≡ O c.node (before (get_or (spec_at setting c.node).sources c.source no_link).order_lead (suc t)) - O c.node (before (get_or (spec_at setting c.node).sources c.source no_link).order_lead t)
    front_is c p =
        ap (λ (k : Holding). get_or (get_or k.legs c.source no_leg).way 0 0) (h.done c.node p.0 (let a = p.0 in omega arith))
        ∙ ap (λ (l : Leg). get_or l.way 0 0) (map_at (leg_ordered setting O V c.node t) (spec_at setting c.node).sources c.source no_link no_leg p.1)
        ∙ first_is (O c.node) (get_or (spec_at setting c.node).sources c.source no_link).order_lead (suc t)
        ∙ (let a = gained (O c.node) (orders_up setting O V r shape c.node (let b = p.0 in omega arith)) (get_or (spec_at setting c.node).sources c.source no_link).order_lead t in omega arith)

    pub fronts_is : fronts ns (callers i) ≡ less (claims_on setting.network.nodes O i (suc t)) (claims_on setting.network.nodes O i t)
    fronts_is =
        map_same (front ns) (λ c. O c.node (before (get_or (spec_at setting c.node).sources c.source no_link).order_lead (suc t)) - O c.node (before (get_or (spec_at setting c.node).sources c.source no_link).order_lead t)) (callers i)
        (All-weaker _ _ front_is (callers i) (are i lt).known)
        ∙ sym (less_map (λ c. O c.node (before (get_or (spec_at setting c.node).sources c.source no_link).order_lead (suc t))) (λ c. O c.node (before (get_or (spec_at setting c.node).sources c.source no_link).order_lead t)) (callers i))
        ∙ (λ j. less (sym ((are i lt).claims O (suc t)) j) (sym ((are i lt).claims O t) j))

    pub noted_is : noted_node ns i (callers i) (setting.demand i (suc t)) ≡ at_seen setting O V t i
    noted_is = (λ j. with_claims (begun (h.resting i (omega arith) lt j) (setting.demand i (suc t))) (fronts_is j)) ∙ seen_phase setting O V i (steady setting O V r shape i lt) t

    pub order_is : O i (suc t) ≡ O i t + cond (orders_paused setting i (suc t)) 0 (order i (noted_node ns i (callers i) (setting.demand i (suc t))))
    order_is =
        r.orders i t lt
        ∙ ap (λ q. O i t + cond (orders_paused setting i (suc t)) 0 q) (sym (is_order i lt) ∙ ap (order i) (sym noted_is))

    pub ordered_is : ordered_node (order i) ns i (callers i) (setting.demand i (suc t)) (orders_paused setting i (suc t)) ≡ at_ordered setting O V t i
    ordered_is =
        ap (λ k. placed k (cond (orders_paused setting i (suc t)) 0 (order i (noted_node ns i (callers i) (setting.demand i (suc t)))))) noted_is
        ∙ ordered_phase setting O V i (steady setting O V r shape i lt) t _ order_is

    pub can : CanOrder (order i) ns i (callers i) (setting.demand i (suc t)) (orders_paused setting i (suc t))
    can = record {
      is_node = let a = h.all in omega arith;
      are_callers = All-weaker (λ c. (c.node < i) × (c.source < length (spec_at setting c.node).sources)) (λ c. (c.node < i) × (c.source < length (node ns c.node).legs)) (λ c p. (p.0, known c p)) (callers i) (are i lt).known;
      are_slots = slots;
      few_noted = few_noted;
      few_ordered = few_ordered;
    }
      where
        known : (c : Caller) → (c.node < i) × (c.source < length (spec_at setting c.node).sources) → c.source < length (node ns c.node).legs
        known c p =
            let a = ap (λ (k : Holding). length k.legs) (h.done c.node p.0 (let b = p.0 in omega arith)) in
            let d = length-map_of (leg_ordered setting O V c.node t) (spec_at setting c.node).sources in
            let e = p.1 in
            omega arith

        slots : length (callers i) ≤ length (node ns i).claims
        slots =
            let a = ap (λ (k : Holding). length k.claims) (h.resting i (omega arith) lt) in
            let b = held_length (claims_on setting.network.nodes O i t) (drop 1 (V i t)) (drop 1 (served_before V i t)) in
            let d = ap length ((are i lt).claims O t) ∙ length-map_of _ (callers i) in
            omega arith

        few_noted : (node ns i).noted + setting.demand i (suc t) + total (fronts ns (callers i)) ≤ 10 ^ 12
        few_noted =
            let a = ap (λ (k : Holding). k.noted) noted_is in
            let b = noted_most setting O V r shape load (suc t) left fed (suc t) (omega arith) i lt in
            let d = load.light i lt in
            omega arith

        few_ordered : (node ns i).ordered + cond (orders_paused setting i (suc t)) 0 (order i (noted_node ns i (callers i) (setting.demand i (suc t)))) ≤ 10 ^ 12
        few_ordered =
            let a = ap (λ (k : Holding). k.ordered) (h.resting i (omega arith) lt) in
            let b = orders_most setting O V r shape load (suc t) left fed (suc t) (omega arith) i lt in
            let d = load.light i lt in
            let e = order_is in
            omega arith

    pub next : HaveOrdered (suc i) (set ns i (ordered_node (order i) ns i (callers i) (setting.demand i (suc t)) (orders_paused setting i (suc t))))
    next = record {
      all = length-set ns i _ ∙ h.all;
      done = λ k less_k in_k. by k in_k (cases_lt k i) less_k;
      resting = λ k more in_k. get_or-set_other ns i k _ no_holding (omega arith) ∙ h.resting k (omega arith) in_k;
    }
      where
        by : (k : ℕ) → k < length setting.network.nodes → (k < i) ⊎ (i ≤ k) → k < suc i → node (set ns i (ordered_node (order i) ns i (callers i) (setting.demand i (suc t)) (orders_paused setting i (suc t)))) k ≡ at_ordered setting O V t k
        by k in_k (inl small) less_k = get_or-set_other ns i k _ no_holding (omega arith) ∙ h.done k small in_k
        by k in_k (inr ge) less_k =
            let same : i ≡ k = omega arith in
            subst (λ m. node (set ns i (ordered_node (order i) ns i (callers i) (setting.demand i (suc t)) (orders_paused setting i (suc t)))) m ≡ at_ordered setting O V t m) same
            (get_or-set_same ns i _ no_holding (let a = h.all in omega arith) ∙ ordered_is)

  pub pass_is : (ns : List Holding) → HaveOrdered 0 ns → (i : ℕ) → i ≤ length setting.network.nodes →
      HaveOrdered i (after_orders order callers (λ k. setting.demand k (suc t)) (λ k. orders_paused setting k (suc t)) ns i)
  pass_is ns start zero le = start
  pass_is ns start (suc i) le = next i (omega arith) (after_orders order callers (λ k. setting.demand k (suc t)) (λ k. orders_paused setting k (suc t)) ns i) (pass_is ns start i (omega arith))

  -- each node of the pass can order
  pub pass_can : (ns : List Holding) → HaveOrdered 0 ns → (i : ℕ) → i < length setting.network.nodes →
      CanOrder (order i) (after_orders order callers (λ k. setting.demand k (suc t)) (λ k. orders_paused setting k (suc t)) ns i) i (callers i) (setting.demand i (suc t)) (orders_paused setting i (suc t))
  pass_can ns start i lt = can i lt (after_orders order callers (λ k. setting.demand k (suc t)) (λ k. orders_paused setting k (suc t)) ns i) (pass_is ns start i (omega arith))
