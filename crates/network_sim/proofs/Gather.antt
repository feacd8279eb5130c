-- The claims on a node, one after another.
use Rattle.std.proofs.Common.{◌≡◌, ◌≢◌, ℕ, zero, suc, ◌+◌, ◌^◌, ◌<◌, ◌≤◌, List, [], ◌∷◌, ◌++◌, length, take, refl, sym, ◌∙◌, ap, arith, get_or, add-one, add-zero}
use Rattle.std.proofs.Math.ListN.{set}
use Rattle.std.proofs.lemmas.List.{get_or-set_same, get_or-set_other, set-get_or, set-set}
use Rattle.network_sim.specs.declared.links.Caller.{Caller}
use Rattle.node_state.specs.Holdings.{Holding, Claim, no_holding, no_leg, no_claim, added, more_due, with_claims, claimed, total}
use Rattle.network_sim.specs.Machine.{node, front, fronts, AreCallers}

pub added_length : (us : List ℕ) (cs : List Claim) → length (added us cs) ≡ length cs
added_length [] cs = refl
added_length (u ∷ us) [] = refl
added_length (u ∷ us) (c ∷ cs) = ap suc (added_length us cs)

added_more : (us : List ℕ) (u : ℕ) (cs : List Claim) → length us < length cs → set (added us cs) (length us) (more_due (get_or (added us cs) (length us) no_claim) u) ≡ added (us ++ u ∷ []) cs
added_more [] u [] lt = absurd (omega arith)
added_more [] u (c ∷ cs) lt = refl
added_more (v ∷ us) u [] lt = absurd (omega arith)
added_more (v ∷ us) u (c ∷ cs) lt = ap (λ ds. more_due c v ∷ ds) (added_more us u cs (omega arith))

pub total_more : (us : List ℕ) (u : ℕ) → total (us ++ u ∷ []) ≡ total us + u
total_more [] u = omega arith
total_more (v ∷ us) u = let a = total_more us u in omega arith

pub with_more : (h : Holding) (us : List ℕ) (u : ℕ) → length us < length h.claims → claimed (with_claims h us) (length us) u ≡ with_claims h (us ++ u ∷ [])
with_more h us u lt = λ j. record h { noted = noted j; seen = seen j; claims = added_more us u h.claims lt j }
  where
    noted : h.noted + total us + u ≡ h.noted + total (us ++ u ∷ [])
    noted = let a = total_more us u in omega arith

    seen : h.seen + total us + u ≡ h.seen + total (us ++ u ∷ [])
    seen = let a = total_more us u in omega arith

pub with_none : (h : Holding) → with_claims h [] ≡ h
with_none h = λ j. record h { noted = add-zero h.noted j; seen = add-zero h.seen j }

pub none_gathered : (nodes : List Holding) (i : ℕ) → nodes ≡ set nodes i (with_claims (node nodes i) [])
none_gathered nodes i = sym (ap (set nodes i) (with_none (node nodes i)) ∙ set-get_or nodes i no_holding)

fronts_more : (nodes : List Holding) (cs : List Caller) (k : ℕ) (d : Caller) → k < length cs → fronts nodes (take (k + 1) cs) ≡ fronts nodes (take k cs) ++ front nodes (get_or cs k d) ∷ []
fronts_more nodes [] k d lt = absurd (omega arith)
fronts_more nodes (c ∷ cs) zero d lt = refl
fronts_more nodes (c ∷ cs) (suc k) d lt = rw (add-one (suc k)) (ap (λ xs. front nodes c ∷ xs) (rw (add-one k) at (fronts_more nodes cs k d (omega arith))))

fronts_length : (nodes : List Holding) (cs : List Caller) (k : ℕ) → k ≤ length cs → length (fronts nodes (take k cs)) ≡ k
fronts_length nodes cs zero le = refl
fronts_length nodes [] (suc k) le = absurd (omega arith)
fronts_length nodes (c ∷ cs) (suc k) le = ap suc (fronts_length nodes cs k (omega arith))

fronts_part : (nodes : List Holding) (cs : List Caller) (k : ℕ) → total (fronts nodes (take k cs)) ≤ total (fronts nodes cs)
fronts_part nodes cs zero = omega arith
fronts_part nodes [] (suc k) = omega arith
fronts_part nodes (c ∷ cs) (suc k) = let a = fronts_part nodes cs k in omega arith

module _ (before now : List Holding) (i k : ℕ) (callers : List Caller)
    (lt : i < length before)
    (are : AreCallers before i callers)
    (slots : length callers ≤ length (node before i).claims)
    (few : (node before i).noted + total (fronts before callers) ≤ 10 ^ 12)
    (more : k < length callers)
    (inv : now ≡ set before i (with_claims (node before i) (fronts before (take k callers)))) where
  pub here : (d : Holding) → get_or now i d ≡ with_claims (node before i) (fronts before (take k callers))
  here d = ap (λ xs. get_or xs i d) inv ∙ get_or-set_same before i _ d lt

  pub slot_room : (d : Holding) → k < length (get_or now i d).claims
  slot_room d = let e = ap (λ (h : Holding). length h.claims) (here d) in let f = added_length (fronts before (take k callers)) (node before i).claims in omega arith

  same_front : (d : Caller) → front now (get_or callers k d) ≡ front before (get_or callers k d)
  same_front d = ap (λ (h : Holding). get_or (get_or h.legs (get_or callers k d).source no_leg).way 0 0) (ap (λ xs. get_or xs (get_or callers k d).node no_holding) inv ∙ get_or-set_other before i (get_or callers k d).node _ no_holding other)
    where
      other : (get_or callers k d).node ≢ i
      other = let a = (are k d more).0 in omega arith

  pub total_room : (d : Holding) (e : Caller) (units : ℕ) → units ≡ front now (get_or callers k e) → (get_or now i d).noted + units ≤ 10 ^ 12
  total_room d e units is =
      let a = ap (λ (h : Holding). h.noted) (here d) in
      let b = same_front e in
      let c = fronts_part before callers (k + 1) in
      let f = ap total (fronts_more before callers k e more) in
      let g = total_more (fronts before (take k callers)) (front before (get_or callers k e)) in
      omega arith

  pub next : (d : Holding) (e : Caller) (units : ℕ) (new : Holding) → units ≡ front now (get_or callers k e) → new ≡ claimed (get_or now i d) k units →
      set now i new ≡ set before i (with_claims (node before i) (fronts before (take (k + 1) callers)))
  next d e units new is made =
      ap (set now i) (made ∙ (λ j. claimed (here d j) (sym (fronts_length before callers k (omega arith)) j) (is j)) ∙ with_more (node before i) (fronts before (take k callers)) (front now (get_or callers k e)) long
      ∙ ap (λ u. with_claims (node before i) (fronts before (take k callers) ++ u ∷ [])) (same_front e) ∙ ap (with_claims (node before i)) (sym (fronts_more before callers k e more)))
      ∙ ap (λ xs. set xs i (with_claims (node before i) (fronts before (take (k + 1) callers)))) inv
      ∙ set-set before i _ _
    where
      long : length (fronts before (take k callers)) < length (node before i).claims
      long = let a = fronts_length before callers k (omega arith) in omega arith
