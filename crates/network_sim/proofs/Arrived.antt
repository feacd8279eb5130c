-- The units that come to a node, one source after another.
use Rattle.std.proofs.Common.{◌≡◌, ℕ, zero, suc, ◌+◌, ◌<◌, ◌≤◌, Bool, List, [], ◌∷◌, ◌++◌, length, take, refl, sym, ◌∙◌, ap, arith, get_or, add-one, add-zero, Option, Some, None}
use Rattle.std.proofs.Math.ListN.{set}
use Rattle.std.proofs.lemmas.List.{get_or-set_same, get_or-set_other, set-get_or, set-set, length-set}
use Rattle.network_sim.specs.declared.links.Supplier.{Supplier}
use Rattle.node_state.specs.Holdings.{Holding, Leg, no_holding, no_leg, no_claim, leg_received, received}
use Rattle.network_sim.specs.Machine.{node}
use Rattle.network_sim.specs.Supply.{shipped_from_place, shipped_now, IsPlace, shipments, arrived, with_arrived, CanSupply}

pub arrived_length : (b : Bool) (us : List ℕ) (ls : List Leg) → length (arrived b us ls) ≡ length ls
arrived_length b [] ls = refl
arrived_length b (u ∷ us) [] = refl
arrived_length b (u ∷ us) (l ∷ ls) = ap suc (arrived_length b us ls)

-- the legs behind those that were reached are as before
arrived_at : (b : Bool) (us : List ℕ) (ls : List Leg) (d : Leg) → length us < length ls → get_or (arrived b us ls) (length us) d ≡ get_or ls (length us) d
arrived_at b [] ls d lt = refl
arrived_at b (u ∷ us) [] d lt = absurd (omega arith)
arrived_at b (u ∷ us) (l ∷ ls) d lt = arrived_at b us ls d (omega arith)

arrived_more : (b : Bool) (us : List ℕ) (u : ℕ) (ls : List Leg) → length us < length ls → set (arrived b us ls) (length us) (leg_received u b (get_or (arrived b us ls) (length us) no_leg)) ≡ arrived b (us ++ u ∷ []) ls
arrived_more b [] u [] lt = absurd (omega arith)
arrived_more b [] u (l ∷ ls) lt = refl
arrived_more b (v ∷ us) u [] lt = absurd (omega arith)
arrived_more b (v ∷ us) u (l ∷ ls) lt = ap (λ ms. leg_received v b l ∷ ms) (arrived_more b us u ls (omega arith))

shipments_more : (nodes : List Holding) (i s : ℕ) (ss : List Supplier) (k : ℕ) (d : Supplier) → k < length ss → shipments nodes i s (take (k + 1) ss) ≡ shipments nodes i s (take k ss) ++ shipped_now nodes i (s + k) (get_or ss k d) ∷ []
shipments_more nodes i s [] k d lt = absurd (omega arith)
shipments_more nodes i s (x ∷ ss) zero d lt = ap (λ n. shipped_now nodes i n x ∷ []) (sym (add-zero s))
shipments_more nodes i s (x ∷ ss) (suc k) d lt =
    let e : suc s + k ≡ s + suc k = omega arith in
    rw (add-one (suc k)) (ap (λ xs. shipped_now nodes i s x ∷ xs) (rw (add-one k) at (shipments_more nodes i (suc s) ss k d (omega arith)) ∙ ap (λ n. shipments nodes i (suc s) (take k ss) ++ shipped_now nodes i n (get_or ss k d) ∷ []) e))

shipments_length : (nodes : List Holding) (i s : ℕ) (ss : List Supplier) (k : ℕ) → k ≤ length ss → length (shipments nodes i s (take k ss)) ≡ k
shipments_length nodes i s ss zero le = refl
shipments_length nodes i s [] (suc k) le = absurd (omega arith)
shipments_length nodes i s (x ∷ ss) (suc k) le = ap suc (shipments_length nodes i (suc s) ss k (omega arith))

pub none_arrived : (b : Bool) (nodes : List Holding) (i : ℕ) → nodes ≡ set nodes i (with_arrived b (node nodes i) [])
none_arrived b nodes i = sym (set-get_or nodes i no_holding)

module _ (before now : List Holding) (i k : ℕ) (b : Bool) (suppliers : List Supplier)
    (can : CanSupply before i suppliers)
    (more : k < length suppliers)
    (inv : now ≡ set before i (with_arrived b (node before i) (shipments before i 0 (take k suppliers)))) where
  pub here : (d : Holding) → get_or now i d ≡ with_arrived b (node before i) (shipments before i 0 (take k suppliers))
  here d = ap (λ xs. get_or xs i d) inv ∙ get_or-set_same before i _ d can.is_node

  long : length (shipments before i 0 (take k suppliers)) ≡ k
  long = shipments_length before i 0 suppliers k (omega arith)

  pub source_room : (d : Holding) → k < length (get_or now i d).legs
  source_room d =
      let a = ap (λ (h : Holding). length h.legs) (here d) in
      let c = arrived_length b (shipments before i 0 (take k suppliers)) (node before i).legs in
      let e = can.one_each in
      omega arith

  -- the next leg is as before
  leg_is : (d : Holding) (l : Leg) → get_or (get_or now i d).legs k l ≡ get_or (node before i).legs k l
  leg_is d l =
      ap (λ (h : Holding). get_or h.legs k l) (here d)
      ∙ ap (λ n. get_or (arrived b (shipments before i 0 (take k suppliers)) (node before i).legs) n l) (sym long)
      ∙ arrived_at b (shipments before i 0 (take k suppliers)) (node before i).legs l (let a = long in let e = can.one_each in omega arith)
      ∙ ap (λ n. get_or (node before i).legs n l) long

  ship_same : (slot : ℕ) (from : Option ℕ) → IsPlace before i slot from → shipped_from_place now i k slot from ≡ shipped_from_place before i k slot from
  ship_same slot None p = ap (λ (l : Leg). get_or l.way 0 0) (leg_is no_holding no_leg)
  ship_same slot (Some m) p = ap (λ (h : Holding). (get_or h.claims slot no_claim).sent) (ap (λ xs. get_or xs m no_holding) inv ∙ get_or-set_other before i m _ no_holding (let a = p.0 in omega arith))

  pub place_is : (d : Supplier) → IsPlace now i (get_or suppliers k d).slot (get_or suppliers k d).from
  place_is d = by (get_or suppliers k d).slot (get_or suppliers k d).from (can.places k d more)
    where
      by : (slot : ℕ) (from : Option ℕ) → IsPlace before i slot from → IsPlace now i slot from
      by slot None p = tt
      by slot (Some m) p =
          let a = ap length inv ∙ length-set before i _ in
          let c = ap (λ (h : Holding). length h.claims) (ap (λ xs. get_or xs m no_holding) inv ∙ get_or-set_other before i m _ no_holding (let x = p.0 in omega arith)) in
          (p.0, let x = p.1 in omega arith, let x = p.2 in omega arith)

  pub units_room : (d : Holding) (e : Supplier) (units : ℕ) → units ≡ shipped_now now i k (get_or suppliers k e) → units ≤ (get_or (get_or now i d).legs k no_leg).lacking
  units_room d e units is =
      let a = ship_same (get_or suppliers k e).slot (get_or suppliers k e).from (can.places k e more) in
      let c = can.lacking k e more in
      let f = ap (λ (l : Leg). l.lacking) (leg_is d no_leg) in
      omega arith

  pub next : (d : Holding) (e : Supplier) (units : ℕ) (new : Holding) → units ≡ shipped_now now i k (get_or suppliers k e) → new ≡ received (get_or now i d) k units b →
      set now i new ≡ set before i (with_arrived b (node before i) (shipments before i 0 (take (k + 1) suppliers)))
  next d e units new is made =
      ap (set now i) (made ∙ (λ j. received (here d j) (sym long j) (is j) b) ∙ grown ∙ ap (with_arrived b (node before i)) listed)
      ∙ ap (λ xs. set xs i (with_arrived b (node before i) (shipments before i 0 (take (k + 1) suppliers)))) inv
      ∙ set-set before i _ _
    where
      grown : received (with_arrived b (node before i) (shipments before i 0 (take k suppliers))) (length (shipments before i 0 (take k suppliers))) (shipped_now now i k (get_or suppliers k e)) b ≡ with_arrived b (node before i) (shipments before i 0 (take k suppliers) ++ shipped_now now i k (get_or suppliers k e) ∷ [])
      grown = λ j. record (node before i) { legs = arrived_more b (shipments before i 0 (take k suppliers)) (shipped_now now i k (get_or suppliers k e)) (node before i).legs (let a = long in let c = can.one_each in omega arith) j }

      listed : shipments before i 0 (take k suppliers) ++ shipped_now now i k (get_or suppliers k e) ∷ [] ≡ shipments before i 0 (take (k + 1) suppliers)
      listed =
          ap (λ u. shipments before i 0 (take k suppliers) ++ u ∷ []) (ship_same (get_or suppliers k e).slot (get_or suppliers k e).from (can.places k e more) ∙ ap (λ n. shipped_now before i n (get_or suppliers k e)) (omega arith))
          ∙ sym (shipments_more before i 0 suppliers k e more)
