-- Nodes before the first period.
use Rattle.std.proofs.Common.{◌≡◌, ℕ, zero, suc, ◌+◌, ◌-◌, ◌<◌, Bool, true, false, cond, List, [], ◌∷◌, ◌++◌, length, drop, map, refl, sym, ◌∙◌, ap, arith, get_or, add-one}
use Rattle.std.specs.List.{All}
use Rattle.std.proofs.lemmas.List.Elements.{All-weaker, All-head, All-tail}
use Rattle.node_state.specs.Holdings.{Leg, zeros, new_leg, new_claims, new_holding, total}
use Rattle.node_state.specs.Holdings.{legs_of}
use Rattle.node_state.specs.Totals.{Setting, spec_at, before, claims_of, claims_upto, claims_on, all_claims, shipped, made, least, least_from, IsRun, IsShaped}
use Rattle.node_state.specs.Stands.{held, window, leg_at, at_rest}
use Rattle.network_sim.specs.Windows.{window_start, before-zero}
use Rattle.network_sim.specs.Steady.{IsSteadyLeg}
use Rattle.network_sim.specs.Runs.{steady_legs}
use Rattle.network_model.specs.declared.network.Link.{Link}
use Rattle.network_model.specs.Nodes.{is_from}

zeros_at : (n k : ℕ) → get_or (zeros n) k 0 ≡ 0
zeros_at zero k = refl
zeros_at (suc n) zero = refl
zeros_at (suc n) (suc k) = zeros_at n k

zeros_total : (n : ℕ) → total (zeros n) ≡ 0
zeros_total zero = refl
zeros_total (suc n) = omega (arith, zeros_total n)

least_zero : (ls : List Link) → least (map (λ (l : Link). 0) ls) ≡ 0
least_zero [] = refl
least_zero (l ∷ ls) = from ls
  where
    from : (ls : List Link) → least_from 0 (map (λ (l : Link). 0) ls) ≡ 0
    from [] = refl
    from (l ∷ ls) = from ls

held_new : (cs : List ℕ) (n : ℕ) → held cs (zeros n) (zeros n) ≡ held cs [] []
held_new [] n = refl
held_new (c ∷ cs) zero = refl
held_new (c ∷ cs) (suc n) = ap (λ ds. record { due = c - 0; sent = 0 - 0 } ∷ ds) (held_new cs n)

total-append : (xs ys : List ℕ) → total (xs ++ ys) ≡ total xs + total ys
total-append [] ys = omega arith
total-append (x ∷ xs) ys = let a = total-append xs ys in omega arith

none_or : (b : Bool) (x : ℕ) (xs : List ℕ) → x ≡ 0 → total xs ≡ 0 → total (cond b (x ∷ xs) xs) ≡ 0
none_or true x xs e f = omega arith
none_or false x xs e f = f

none_claimed_of : (f : ℕ → ℕ) (i : ℕ) (ls : List Link) → f 0 ≡ 0 → total (claims_of f i 0 ls) ≡ 0
none_claimed_of f i [] e = refl
none_claimed_of f i (l ∷ ls) e =
    none_or (is_from i l.from) (f (before l.order_lead 0)) (claims_of f i 0 ls) (ap f (before-zero l.order_lead) ∙ e) (none_claimed_of f i ls e)

none_claimed : (setting : Setting) (O : ℕ → ℕ → ℕ) (i j : ℕ) → ((k : ℕ) → O k 0 ≡ 0) → total (claims_upto setting.network.nodes O i 0 j) ≡ 0
none_claimed setting O i zero h = refl
none_claimed setting O i (suc j) h =
    omega (arith, total-append (claims_upto setting.network.nodes O i 0 j) (claims_of (O j) i 0 (spec_at setting j).sources), none_claimed setting O i j h, none_claimed_of (O j) i (spec_at setting j).sources (h j))

held_none : (cs vs : List ℕ) → total cs ≡ 0 → held cs vs vs ≡ new_claims (length cs)
held_none [] vs e = refl
held_none (c ∷ cs) vs e =
    let a : c - get_or vs 0 0 ≡ 0 = omega arith in
    let b : get_or vs 0 0 - get_or vs 0 0 ≡ 0 = omega arith in
    λ j. record { due = a j; sent = b j } ∷ held_none cs (drop 1 vs) (omega arith) j

map_all : (f g : Link → Leg) (ls : List Link) → All (λ l. f l ≡ g l) ls → map f ls ≡ map g ls
map_all f g [] p = refl
map_all f g (l ∷ ls) p = λ j. All-head (λ k. f k ≡ g k) l ls p j ∷ map_all f g ls (All-tail (λ k. f k ≡ g k) l ls p) j

-- a new node stands for a run's totals at period 0
pub start_is : (setting : Setting) (O : ℕ → ℕ → ℕ) (V : ℕ → ℕ → List ℕ) (r : IsRun setting O V) (shape : IsShaped setting.network.nodes) (i : ℕ) → i < length setting.network.nodes →
    at_rest setting O V 0 i ≡ new_holding (spec_at setting i).initial (legs_of (spec_at setting i).sources) (length (claims_on setting.network.nodes O i 0))
start_is setting O V r shape i lt =
    λ j. record (at_rest setting O V 0 i) { ordered = r.no_orders i j; noted = noted j; stock = stock j; owed = owed j; claims = claims j; legs = legs j }
  where
    none : total (claims_on setting.network.nodes O i 0) ≡ 0
    none = none_claimed setting O i i r.no_orders

    nothing_made : made setting O V i 0 ≡ 0
    nothing_made = least_zero (spec_at setting i).sources

    noted : 0 + total (claims_on setting.network.nodes O i 0) ≡ 0
    noted = let a = none in omega arith

    stock : (spec_at setting i).initial + made setting O V i 0 - total (V i 0) ≡ (spec_at setting i).initial
    stock = let a = nothing_made in let b = ap total (r.none_served i lt) in let c = zeros_total (length (all_claims setting O i 0)) in omega arith

    owed : 0 - get_or (V i 0) 0 0 ≡ 0
    owed = omega arith

    claims : held (claims_on setting.network.nodes O i 0) (drop 1 (V i 0)) (drop 1 (V i 0)) ≡ new_claims (length (claims_on setting.network.nodes O i 0))
    claims = held_none (claims_on setting.network.nodes O i 0) (drop 1 (V i 0)) none

    leg_is : (l : Link) → IsSteadyLeg setting O V i l → leg_at setting O V i 0 l ≡ new_leg l.lead l.order_lead
    leg_is l p = λ j. record { way = way j; moving = moving j; lacking = lacking j; dock = dock j; raw = raw j }
      where
        way : window (O i) l.order_lead 0 ≡ zeros (l.order_lead + 1)
        way = window_start (O i) l.order_lead ∙ ap zeros (sym (add-one l.order_lead))

        moving : window (shipped setting O V i l) l.lead 0 ≡ zeros (l.lead + 1)
        moving = window_start (shipped setting O V i l) l.lead ∙ ap zeros (sym (add-one l.lead))

        ordered : O i (before l.order_lead 0) ≡ 0
        ordered = ap (O i) (before-zero l.order_lead) ∙ r.no_orders i

        lacking : O i (before l.order_lead 0) - shipped setting O V i l 0 ≡ 0
        lacking = let a = ordered in omega arith

        dock : shipped setting O V i l (before l.lead 0) - 0 ≡ 0
        dock = let a = ordered in let b = p.shipped_most 0 in let c = ap (shipped setting O V i l) (before-zero l.lead) in omega arith

        raw : 0 - made setting O V i 0 ≡ 0
        raw = omega arith

    legs : map (leg_at setting O V i 0) (spec_at setting i).sources ≡ legs_of (spec_at setting i).sources
    legs = map_all (leg_at setting O V i 0) (λ l. new_leg l.lead l.order_lead) (spec_at setting i).sources
        (All-weaker (IsSteadyLeg setting O V i) (λ l. leg_at setting O V i 0 l ≡ new_leg l.lead l.order_lead) leg_is (spec_at setting i).sources (steady_legs setting O V r shape i lt))
