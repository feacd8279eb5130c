-- How the events of a period take a node from its totals of one period to those of the next.
use Rattle.std.proofs.Common.{◌≡◌, ℕ, suc, ◌+◌, ◌-◌, ◌≤◌, min, Bool, true, false, cond, List, [], ◌∷◌, drop, map, slice_index, refl, sym, ◌∙◌, ap, arith, get_or}
use Rattle.std.specs.List.{All}
use Rattle.std.proofs.lemmas.List.Elements.{All-weaker, All-head, All-tail}
use Rattle.node_state.specs.Holdings.{Holding, push_ring, begun, with_claims, placed, leg_placed, leg_received, leg_made, finished, served, least_raw, total, claims_served, left_over, added}
use Rattle.node_state.specs.Totals.{Setting, spec_at, before, shipped, received, made, claims_on, all_claims, demanded, seen, served_next, serve, receipts_paused, shipments_paused}
use Rattle.node_state.specs.Stands.{gain, window, held, less, leg_at, leg_ordered, leg_in, at_rest, at_seen, at_ordered, at_received, at_made, served_before}
use Rattle.network_sim.specs.Windows.{gained, before_up, first_is, window_next}
use Rattle.network_sim.specs.Claims.{AllBelow, below_at, below_chain, held_more, less_total, held_served, held_unsent, left_is}
use Rattle.network_sim.specs.Steady.{IsSteady, IsSteadyLeg, received_most, raw_least, made_up}
use Rattle.network_model.specs.declared.network.Link.{Link}

pub map_map_same : {X Y Z : Type 0} (f : Y → Z) (g : X → Y) (h : X → Z) (xs : List X) → All (λ x. f (g x) ≡ h x) xs → map f (map g xs) ≡ map h xs
map_map_same f g h [] p = refl
map_map_same f g h (x ∷ xs) p = λ i. All-head (λ x. f (g x) ≡ h x) x xs p i ∷ map_map_same f g h xs (All-tail (λ x. f (g x) ≡ h x) x xs p) i

below_rest : (vs : List ℕ) (c : ℕ) (cs : List ℕ) → AllBelow vs (c ∷ cs) → AllBelow (drop 1 vs) cs
below_rest [] c cs p = absurd p
below_rest (v ∷ vs) c cs p = p.1

total_rest : (vs : List ℕ) → total vs ≡ get_or vs 0 0 + total (drop 1 vs)
total_rest [] = refl
total_rest (v ∷ vs) = refl

module _ (setting : Setting) (O : ℕ → ℕ → ℕ) (V : ℕ → ℕ → List ℕ) (i : ℕ) (s : IsSteady setting O V i) (t : ℕ) where
  pub seen_phase : with_claims (begun (at_rest setting O V t i) (setting.demand i (suc t))) (less (claims_on setting.network.nodes O i (suc t)) (claims_on setting.network.nodes O i t)) ≡ at_seen setting O V t i
  seen_phase = λ j. record (at_rest setting O V t i) { noted = noted j; seen = now j; owed = owed j; claims = claims j }
    where
      grown : total (claims_on setting.network.nodes O i t) + total (less (claims_on setting.network.nodes O i (suc t)) (claims_on setting.network.nodes O i t)) ≡ total (claims_on setting.network.nodes O i (suc t))
      grown = less_total (claims_on setting.network.nodes O i (suc t)) (claims_on setting.network.nodes O i t) (s.claims_rise t)

      noted : seen setting O i t + setting.demand i (suc t) + total (less (claims_on setting.network.nodes O i (suc t)) (claims_on setting.network.nodes O i t)) ≡ seen setting O i (suc t)
      noted = let a = grown in omega arith

      now : setting.demand i (suc t) + total (less (claims_on setting.network.nodes O i (suc t)) (claims_on setting.network.nodes O i t)) ≡ seen setting O i (suc t) - seen setting O i t
      now = let a = grown in omega arith

      owed : demanded setting i t - get_or (V i t) 0 0 + setting.demand i (suc t) ≡ demanded setting i (suc t) - get_or (V i t) 0 0
      owed = let a = below_at (V i t) (all_claims setting O i t) 0 (s.within t) in omega arith

      claims : added (less (claims_on setting.network.nodes O i (suc t)) (claims_on setting.network.nodes O i t)) (held (claims_on setting.network.nodes O i t) (drop 1 (V i t)) (drop 1 (served_before V i t))) ≡ held (claims_on setting.network.nodes O i (suc t)) (drop 1 (V i t)) (drop 1 (served_before V i t))
      claims = held_more (claims_on setting.network.nodes O i (suc t)) (claims_on setting.network.nodes O i t) (drop 1 (V i t)) (drop 1 (served_before V i t)) (below_rest (V i t) (demanded setting i t) (claims_on setting.network.nodes O i t) (s.within t)) (s.claims_rise t)

  leg_ordered_is : (l : Link) → IsSteadyLeg setting O V i l → leg_placed (gain (O i) (suc t)) (leg_at setting O V i t l) ≡ leg_ordered setting O V i t l
  leg_ordered_is l p = λ j. record (leg_at setting O V i t l) { way = window_next (O i) l.order_lead t j; lacking = lacking j }
    where
      front : slice_index (push_ring (window (O i) l.order_lead t) (gain (O i) (suc t))) 0 ≡ gain (O i) (before l.order_lead (suc t))
      front = ap (λ xs. slice_index xs 0) (window_next (O i) l.order_lead t) ∙ first_is (O i) l.order_lead (suc t)

      lacking : O i (before l.order_lead t) - shipped setting O V i l t + slice_index (push_ring (window (O i) l.order_lead t) (gain (O i) (suc t))) 0 ≡ O i (before l.order_lead (suc t)) - shipped setting O V i l t
      lacking = let a = front in let b = gained (O i) s.orders_up l.order_lead t in let c = p.shipped_most t in omega arith

  pub ordered_phase : (q : ℕ) → O i (suc t) ≡ O i t + q → placed (at_seen setting O V t i) q ≡ at_ordered setting O V t i
  ordered_phase q e =
      ap (placed (at_seen setting O V t i)) same
      ∙ (λ j. record (at_seen setting O V t i) { ordered = up j; legs = map_map_same (leg_placed (gain (O i) (suc t))) (leg_at setting O V i t) (leg_ordered setting O V i t) (spec_at setting i).sources (All-weaker (IsSteadyLeg setting O V i) (λ l. leg_placed (gain (O i) (suc t)) (leg_at setting O V i t l) ≡ leg_ordered setting O V i t l) leg_ordered_is (spec_at setting i).sources s.legs) j })
    where
      same : q ≡ gain (O i) (suc t)
      same = omega arith

      up : O i t + gain (O i) (suc t) ≡ O i (suc t)
      up = let a = s.orders_up t in omega arith

  dock_is : (b : Bool) (S S' r m : ℕ) → r ≤ S' → m ≤ r → cond b (S' - r) 0 ≡ S' - cond b r S'
  dock_is true S S' r m p q = refl
  dock_is false S S' r m p q = omega arith

  raw_is : (b : Bool) (S' r m : ℕ) → r ≤ S' → m ≤ r → cond b (r - m) (r - m + (S' - r)) ≡ cond b r S' - m
  raw_is true S' r m p q = refl
  raw_is false S' r m p q = omega arith

  pub leg_in_is : (l : Link) → IsSteadyLeg setting O V i l → made setting O V i t ≤ received setting O V i l t → leg_received (gain (shipped setting O V i l) (suc t)) (receipts_paused setting i (suc t)) (leg_ordered setting O V i t l) ≡ leg_in setting O V i t l
  leg_in_is l p few = λ j. record (leg_ordered setting O V i t l) { moving = window_next S l.lead t j; lacking = lacking j; dock = (ap (λ x. cond b x 0) arrived ∙ dock_is b 0 S' r m most few) j; raw = (ap (λ x. cond b (r - m) (r - m + x)) arrived ∙ raw_is b S' r m most few) j }
    where
      S : ℕ → ℕ
      S = shipped setting O V i l

      b : Bool
      b = receipts_paused setting i (suc t)

      S' : ℕ
      S' = shipped setting O V i l (before l.lead (suc t))

      r : ℕ
      r = received setting O V i l t

      m : ℕ
      m = made setting O V i t

      front : slice_index (push_ring (window (shipped setting O V i l) l.lead t) (gain (shipped setting O V i l) (suc t))) 0 ≡ gain (shipped setting O V i l) (before l.lead (suc t))
      front = ap (λ xs. slice_index xs 0) (window_next (shipped setting O V i l) l.lead t) ∙ first_is (shipped setting O V i l) l.lead (suc t)

      most : received setting O V i l t ≤ shipped setting O V i l (before l.lead (suc t))
      most = let a = received_most setting O V i l p t in let c = before_up (shipped setting O V i l) p.shipped_up l.lead t in omega arith

      arrived : shipped setting O V i l (before l.lead t) - received setting O V i l t + slice_index (push_ring (window (shipped setting O V i l) l.lead t) (gain (shipped setting O V i l) (suc t))) 0 ≡ shipped setting O V i l (before l.lead (suc t)) - received setting O V i l t
      arrived = let a = front in let c = gained (shipped setting O V i l) p.shipped_up l.lead t in let d = received_most setting O V i l p t in omega arith

      lacking : O i (before l.order_lead (suc t)) - shipped setting O V i l t - gain (shipped setting O V i l) (suc t) ≡ O i (before l.order_lead (suc t)) - shipped setting O V i l (suc t)
      lacking = let a = p.shipped_up t in omega arith

  leg_made_is : (l : Link) → leg_made (made setting O V i (suc t) - made setting O V i t) (leg_in setting O V i t l) ≡ leg_at setting O V i (suc t) l
  leg_made_is l = λ j. record (leg_in setting O V i t l) { raw = raw j }
    where
      raw : received setting O V i l (suc t) - made setting O V i t - (made setting O V i (suc t) - made setting O V i t) ≡ received setting O V i l (suc t) - made setting O V i (suc t)
      raw = let a = made_up setting O V i s.legs t in omega arith

  all_made : (ls : List Link) → map (leg_made (made setting O V i (suc t) - made setting O V i t)) (map (leg_in setting O V i t) ls) ≡ map (leg_at setting O V i (suc t)) ls
  all_made [] = refl
  all_made (l ∷ ls) = λ j. leg_made_is l j ∷ all_made ls j

  pub made_phase : finished (at_received setting O V t i) ≡ at_made setting O V t i
  made_phase = λ j. record (at_received setting O V t i) { made = least_is j; stock = stock j; legs = (ap (λ m. map (leg_made m) (map (leg_in setting O V i t) (spec_at setting i).sources)) least_is ∙ all_made (spec_at setting i).sources) j }
    where
      least_is : least_raw (map (leg_in setting O V i t) (spec_at setting i).sources) ≡ made setting O V i (suc t) - made setting O V i t
      least_is = raw_least (λ l. received setting O V i l (suc t)) (leg_in setting O V i t) (made setting O V i t) (λ l. refl) (spec_at setting i).sources

      stock : (spec_at setting i).initial + made setting O V i t - total (V i t) + least_raw (map (leg_in setting O V i t) (spec_at setting i).sources) ≡ (spec_at setting i).initial + made setting O V i (suc t) - total (V i t)
      stock = let a = least_is in let b = made_up setting O V i s.legs t in let c = s.stocked t in omega arith

  -- node i after period suc t, with the served totals vs
  abbrev served_with : List ℕ → Holding
  served_with vs = record (at_made setting O V t i) {
    stock = (spec_at setting i).initial + made setting O V i (suc t) - total vs;
    owed = demanded setting i (suc t) - get_or vs 0 0;
    claims = held (claims_on setting.network.nodes O i (suc t)) (drop 1 vs) (drop 1 (V i t));
  }

  within_next : AllBelow (V i t) (all_claims setting O i (suc t))
  within_next = below_chain (V i t) (all_claims setting O i t) (all_claims setting O i (suc t)) (s.within t) (omega arith, s.claims_rise t)

  served_open : served (at_made setting O V t i) false ≡ served_with (serve (all_claims setting O i (suc t)) (V i t) ((spec_at setting i).initial + made setting O V i (suc t) - total (V i t)))
  served_open = λ j. record (at_made setting O V t i) { stock = stock j; owed = owed j; claims = claims j }
    where
      left : ℕ
      left = (spec_at setting i).initial + made setting O V i (suc t) - total (V i t)

      first : ℕ
      first = get_or (V i t) 0 0

      sent : ℕ
      sent = min (demanded setting i (suc t) - get_or (V i t) 0 0) ((spec_at setting i).initial + made setting O V i (suc t) - total (V i t))

      rest : AllBelow (drop 1 (V i t)) (claims_on setting.network.nodes O i (suc t))
      rest = below_rest (V i t) (demanded setting i (suc t)) (claims_on setting.network.nodes O i (suc t)) within_next

      owed : demanded setting i (suc t) - first - sent ≡ demanded setting i (suc t) - (first + sent)
      owed = omega arith

      claims : claims_served (held (claims_on setting.network.nodes O i (suc t)) (drop 1 (V i t)) (drop 1 (served_before V i t))) (left - sent) ≡ held (claims_on setting.network.nodes O i (suc t)) (serve (claims_on setting.network.nodes O i (suc t)) (drop 1 (V i t)) (left - sent)) (drop 1 (V i t))
      claims = held_served (claims_on setting.network.nodes O i (suc t)) (drop 1 (V i t)) (drop 1 (served_before V i t)) (left - sent) rest

      stock : left_over (held (claims_on setting.network.nodes O i (suc t)) (drop 1 (V i t)) (drop 1 (served_before V i t))) (left - sent) ≡ (spec_at setting i).initial + made setting O V i (suc t) - (first + sent + total (serve (claims_on setting.network.nodes O i (suc t)) (drop 1 (V i t)) (left - sent)))
      stock =
          let a = left_is (claims_on setting.network.nodes O i (suc t)) (drop 1 (V i t)) (drop 1 (served_before V i t)) (left - sent) rest in
          let b = total_rest (V i t) in
          let c = s.stocked t in
          let d = made_up setting O V i s.legs t in
          omega arith

  served_shut : served (at_made setting O V t i) true ≡ served_with (V i t)
  served_shut = λ j. record (at_made setting O V t i) { claims = held_unsent (claims_on setting.network.nodes O i (suc t)) (drop 1 (V i t)) (drop 1 (served_before V i t)) j }

  served_either : (b : Bool) → served (at_made setting O V t i) b ≡ served_with (cond b (V i t) (serve (all_claims setting O i (suc t)) (V i t) ((spec_at setting i).initial + made setting O V i (suc t) - total (V i t))))
  served_either true = served_shut
  served_either false = served_open

  pub served_phase : V i (suc t) ≡ served_next setting O V i t → served (at_made setting O V t i) (shipments_paused setting i (suc t)) ≡ at_rest setting O V (suc t) i
  served_phase e = served_either (shipments_paused setting i (suc t)) ∙ ap served_with (sym e)
