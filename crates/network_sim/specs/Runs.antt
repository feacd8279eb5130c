-- The totals of a run never fall, and none passes what it is part of.
use Rattle.std.proofs.Common.{◌≡◌, ℕ, zero, suc, ◌+◌, ◌-◌, ◌<◌, ◌≤◌, Bool, true, false, cond, List, [], ◌∷◌, ◌++◌, length, refl, sym, ◌∙◌, ap, subst, arith, get_or, Option, Some, None, length-append, ◌⊎◌, inl, inr}
use Rattle.std.specs.List.{All}
use Rattle.std.proofs.lemmas.Bool.{cases_lt}
use Rattle.std.proofs.lemmas.List.Elements.{All-weaker}
use Rattle.node_state.specs.Holdings.{total, zeros}
use Rattle.node_state.specs.Totals.{Setting, spec_at, before, slot, shipped_from, made, claims_of, claims_upto, claims_on, all_claims, IsRun, IsSource, IsShaped, shipments_paused}
use Rattle.network_sim.specs.Windows.{IsRunning, before_up}
use Rattle.network_sim.specs.Claims.{AllBelow, below_same, below_zeros, below_chain, below_at, claims_up, serve_below, serve_up, serve_total}
use Rattle.network_sim.specs.Steady.{IsSteady, IsSteadyLeg, made_up}
use Rattle.network_model.specs.declared.network.Link.{Link}
use Rattle.network_model.specs.Nodes.{is_from}

pub at_prefix : (xs ys : List ℕ) (k : ℕ) → k < length xs → get_or (xs ++ ys) k 0 ≡ get_or xs k 0
at_prefix [] ys k lt = absurd (omega arith)
at_prefix (x ∷ xs) ys zero lt = refl
at_prefix (x ∷ xs) ys (suc k) lt = at_prefix xs ys k (omega arith)

pub at_end : (xs : List ℕ) (v : ℕ) → get_or (xs ++ v ∷ []) (length xs) 0 ≡ v
at_end [] v = refl
at_end (x ∷ xs) v = at_end xs v

-- how many claims there are doesn't depend on the totals
length_of : (f g : ℕ → ℕ) (k t s : ℕ) (ls : List Link) → length (claims_of f k t ls) ≡ length (claims_of g k s ls)
length_of f g k t s [] = refl
length_of f g k t s (l ∷ ls) = by (is_from k l.from) (length_of f g k t s ls)
  where
    by : (b : Bool) → length (claims_of f k t ls) ≡ length (claims_of g k s ls) → length (cond b (f (before l.order_lead t) ∷ claims_of f k t ls) (claims_of f k t ls)) ≡ length (cond b (g (before l.order_lead s) ∷ claims_of g k s ls) (claims_of g k s ls))
    by true e = ap suc e
    by false e = e

pub length_upto : (setting : Setting) (O P : ℕ → ℕ → ℕ) (k t s j : ℕ) → length (claims_upto setting.network.nodes O k t j) ≡ length (claims_upto setting.network.nodes P k s j)
length_upto setting O P k t s zero = refl
length_upto setting O P k t s (suc j) =
    omega (arith, length-append (claims_upto setting.network.nodes O k t j) (claims_of (O j) k t (spec_at setting j).sources), length-append (claims_upto setting.network.nodes P k s j) (claims_of (P j) k s (spec_at setting j).sources), length_upto setting O P k t s j, length_of (O j) (P j) k t s (spec_at setting j).sources)

-- the claim of node i on node k stands at its slot
pub slot_at : (setting : Setting) (O : ℕ → ℕ → ℕ) (k t i v j : ℕ) → claims_of (O i) k t (spec_at setting i).sources ≡ v ∷ [] → i < j →
    (slot setting.network.nodes k i < length (claims_upto setting.network.nodes O k t j)) × (get_or (claims_upto setting.network.nodes O k t j) (slot setting.network.nodes k i) 0 ≡ v)
slot_at setting O k t i v zero e lt = absurd (omega arith)
slot_at setting O k t i v (suc j) e lt = by (cases_lt i j) (slot_at setting O k t i v j e)
  where
    long : length (claims_upto setting.network.nodes O k t (suc j)) ≡ length (claims_upto setting.network.nodes O k t j) + length (claims_of (O j) k t (spec_at setting j).sources)
    long = length-append (claims_upto setting.network.nodes O k t j) (claims_of (O j) k t (spec_at setting j).sources)

    by : (i < j) ⊎ (j ≤ i) → (i < j → (slot setting.network.nodes k i < length (claims_upto setting.network.nodes O k t j)) × (get_or (claims_upto setting.network.nodes O k t j) (slot setting.network.nodes k i) 0 ≡ v)) → (slot setting.network.nodes k i < length (claims_upto setting.network.nodes O k t (suc j))) × (get_or (claims_upto setting.network.nodes O k t (suc j)) (slot setting.network.nodes k i) 0 ≡ v)
    by (inl less) h = (let a = (h less).0 in let b = long in omega arith, at_prefix (claims_upto setting.network.nodes O k t j) (claims_of (O j) k t (spec_at setting j).sources) (slot setting.network.nodes k i) (h less).0 ∙ (h less).1)
    by (inr ge) h =
        let same : j ≡ i = omega arith in
        let f : claims_of (O j) k t (spec_at setting j).sources ≡ v ∷ [] = subst (λ n. claims_of (O n) k t (spec_at setting n).sources ≡ v ∷ []) (sym same) e in
        let n : slot setting.network.nodes k i ≡ length (claims_upto setting.network.nodes O k t j) = ap (slot setting.network.nodes k) (sym same) ∙ length_upto setting (λ m s. 0) O k 0 t j in (
          let a = ap length f in let b = long in omega arith,
          ap (λ xs. get_or (claims_upto setting.network.nodes O k t j ++ xs) (slot setting.network.nodes k i) 0) f ∙ ap (λ m. get_or (claims_upto setting.network.nodes O k t j ++ v ∷ []) m 0) n ∙ at_end (claims_upto setting.network.nodes O k t j) v,
        )

total_zeros : (n : ℕ) → total (zeros n) ≡ 0
total_zeros zero = refl
total_zeros (suc n) = omega (arith, total_zeros n)

module _ (setting : Setting) (O : ℕ → ℕ → ℕ) (V : ℕ → ℕ → List ℕ) (r : IsRun setting O V) (shape : IsShaped setting.network.nodes) where
  pub orders_up : (i : ℕ) → i < length setting.network.nodes → IsRunning (O i)
  orders_up i lt t = let e = r.orders i t lt in omega arith

  pub claims_rise : (i : ℕ) → i < length setting.network.nodes → (t : ℕ) → AllBelow (claims_on setting.network.nodes O i t) (claims_on setting.network.nodes O i (suc t))
  claims_rise i lt t = claims_up setting O i t i (λ k le. orders_up k (omega arith))

  all_rise : (i : ℕ) → i < length setting.network.nodes → (t : ℕ) → AllBelow (all_claims setting O i t) (all_claims setting O i (suc t))
  all_rise i lt t = (omega arith, claims_rise i lt t)

  either_below : (b : Bool) (xs ys cs : List ℕ) → AllBelow xs cs → AllBelow ys cs → AllBelow (cond b xs ys) cs
  either_below true xs ys cs p q = p
  either_below false xs ys cs p q = q

  either_above : (b : Bool) (xs ys vs : List ℕ) → AllBelow vs xs → AllBelow vs ys → AllBelow vs (cond b xs ys)
  either_above true xs ys vs p q = p
  either_above false xs ys vs p q = q

  pub within : (i : ℕ) → i < length setting.network.nodes → (t : ℕ) → AllBelow (V i t) (all_claims setting O i t)
  within i lt zero = subst (λ vs. AllBelow vs (all_claims setting O i 0)) (sym (r.none_served i lt)) (below_zeros (all_claims setting O i 0))
  within i lt (suc t) =
      let up = below_chain _ _ _ (within i lt t) (all_rise i lt t) in
      subst (λ vs. AllBelow vs (all_claims setting O i (suc t))) (sym (r.served i t lt))
      (either_below (shipments_paused setting i (suc t)) _ _ _ up (serve_below (all_claims setting O i (suc t)) (V i t) ((spec_at setting i).initial + made setting O V i (suc t) - total (V i t)) up))

  pub served_up : (i : ℕ) → i < length setting.network.nodes → (t : ℕ) → AllBelow (V i t) (V i (suc t))
  served_up i lt t =
      let up = below_chain _ _ _ (within i lt t) (all_rise i lt t) in
      subst (λ vs. AllBelow (V i t) vs) (sym (r.served i t lt))
      (either_above (shipments_paused setting i (suc t)) _ _ _ (below_same (V i t)) (serve_up (all_claims setting O i (suc t)) (V i t) ((spec_at setting i).initial + made setting O V i (suc t) - total (V i t)) up))

  steady_from : (i : ℕ) → i < length setting.network.nodes → (m : Option ℕ) (order_lead : ℕ) → IsSource setting.network.nodes i order_lead m →
      IsRunning (shipped_from setting O V i m order_lead) × ((t : ℕ) → shipped_from setting O V i m order_lead t ≤ O i (before order_lead t))
  steady_from i lt None order_lead p = (before_up (O i) (orders_up i lt) order_lead, λ t. omega arith)
  steady_from i lt (Some k) order_lead p = (
    λ t. below_at (V k t) (V k (suc t)) (suc (slot setting.network.nodes k i)) (served_up k p.1 t),
    λ t. let a = below_at (V k t) (all_claims setting O k t) (suc (slot setting.network.nodes k i)) (within k p.1 t) in
        let b = (slot_at setting O k t i (O i (before order_lead t)) k (p.2 (O i) t) p.0).1 in
        omega arith,
  )

  pub steady_legs : (i : ℕ) → i < length setting.network.nodes → All (IsSteadyLeg setting O V i) (spec_at setting i).sources
  steady_legs i lt =
      All-weaker (λ l. IsSource setting.network.nodes i l.order_lead l.from) (IsSteadyLeg setting O V i)
      (λ l p. let a = steady_from i lt l.from l.order_lead p in record { shipped_up = a.0; shipped_most = a.1 })
      (spec_at setting i).sources (shape i lt)

  either_most : (b : Bool) (xs ys : List ℕ) (m : ℕ) → total xs ≤ m → total ys ≤ m → total (cond b xs ys) ≤ m
  either_most true xs ys m p q = p
  either_most false xs ys m p q = q

  pub stocked : (i : ℕ) → i < length setting.network.nodes → (t : ℕ) → total (V i t) ≤ (spec_at setting i).initial + made setting O V i t
  stocked i lt zero = let e = ap total (r.none_served i lt) in let f = total_zeros (length (all_claims setting O i 0)) in omega arith
  stocked i lt (suc t) =
      let up = below_chain _ _ _ (within i lt t) (all_rise i lt t) in
      let here = stocked i lt t in
      let more = made_up setting O V i (steady_legs i lt) t in
      subst (λ vs. total vs ≤ (spec_at setting i).initial + made setting O V i (suc t)) (sym (r.served i t lt))
      (either_most (shipments_paused setting i (suc t)) _ _ _ (omega arith)
      (let a = serve_total (all_claims setting O i (suc t)) (V i t) ((spec_at setting i).initial + made setting O V i (suc t) - total (V i t)) up in omega arith))

  pub steady : (i : ℕ) → i < length setting.network.nodes → IsSteady setting O V i
  steady i lt = record {
    orders_up = orders_up i lt;
    claims_rise = claims_rise i lt;
    legs = steady_legs i lt;
    within = within i lt;
    stocked = stocked i lt;
  }
