-- Claims and what is served of them.
use Rattle.std.proofs.Common.{◌≡◌, ℕ, zero, suc, ◌+◌, ◌-◌, ◌<◌, ◌≤◌, min, Bool, true, false, cond, List, [], ◌∷◌, ◌++◌, length, drop, map, refl, ap, arith, get_or}
use Rattle.node_state.specs.Totals.{Setting, spec_at, before, claims_of, claims_upto, serve}
use Rattle.node_state.specs.Holdings.{Claim, claims_served, left_over, unsent, added, total, zeros}
use Rattle.node_state.specs.Stands.{held, less}
use Rattle.network_sim.specs.Windows.{IsRunning, before_up}
use Rattle.network_model.specs.declared.network.Link.{Link}
use Rattle.network_model.specs.Nodes.{is_from}

-- lists of one length, the first nowhere above the second
abbrev pub AllBelow : List ℕ → List ℕ → Type 0
AllBelow [] [] = Unit {0}
AllBelow [] (c ∷ cs) = ⊥
AllBelow (v ∷ vs) [] = ⊥
AllBelow (v ∷ vs) (c ∷ cs) = (v ≤ c) × AllBelow vs cs

pub below_same : (xs : List ℕ) → AllBelow xs xs
below_same [] = tt
below_same (x ∷ xs) = (omega arith, below_same xs)

pub below_zeros : (cs : List ℕ) → AllBelow (zeros (length cs)) cs
below_zeros [] = tt
below_zeros (c ∷ cs) = (omega arith, below_zeros cs)

pub below_chain : (xs ys zs : List ℕ) → AllBelow xs ys → AllBelow ys zs → AllBelow xs zs
below_chain [] [] [] p q = tt
below_chain [] [] (z ∷ zs) p q = q
below_chain [] (y ∷ ys) zs p q = absurd p
below_chain (x ∷ xs) [] zs p q = absurd p
below_chain (x ∷ xs) (y ∷ ys) [] p q = absurd q
below_chain (x ∷ xs) (y ∷ ys) (z ∷ zs) p q = (let a = p.0 in let b = q.0 in omega arith, below_chain xs ys zs p.1 q.1)

pub below_append : (xs ys us vs : List ℕ) → AllBelow xs ys → AllBelow us vs → AllBelow (xs ++ us) (ys ++ vs)
below_append [] [] us vs p q = q
below_append [] (y ∷ ys) us vs p q = absurd p
below_append (x ∷ xs) [] us vs p q = absurd p
below_append (x ∷ xs) (y ∷ ys) us vs p q = (p.0, below_append xs ys us vs p.1 q)

pub below_length : (xs ys : List ℕ) → AllBelow xs ys → length xs ≡ length ys
below_length [] [] p = refl
below_length [] (y ∷ ys) p = absurd p
below_length (x ∷ xs) [] p = absurd p
below_length (x ∷ xs) (y ∷ ys) p = ap suc (below_length xs ys p.1)

pub below_total : (xs ys : List ℕ) → AllBelow xs ys → total xs ≤ total ys
below_total [] [] p = omega arith
below_total [] (y ∷ ys) p = absurd p
below_total (x ∷ xs) [] p = absurd p
below_total (x ∷ xs) (y ∷ ys) p = let a = p.0 in let b = below_total xs ys p.1 in omega arith

pub below_at : (xs ys : List ℕ) (k : ℕ) → AllBelow xs ys → get_or xs k 0 ≤ get_or ys k 0
below_at [] [] k p = omega arith
below_at [] (y ∷ ys) k p = absurd p
below_at (x ∷ xs) [] k p = absurd p
below_at (x ∷ xs) (y ∷ ys) zero p = p.0
below_at (x ∷ xs) (y ∷ ys) (suc k) p = below_at xs ys k p.1

-- claims grow
below_if : (b : Bool) (x y : ℕ) (xs ys : List ℕ) → x ≤ y → AllBelow xs ys → AllBelow (cond b (x ∷ xs) xs) (cond b (y ∷ ys) ys)
below_if true x y xs ys h p = (h, p)
below_if false x y xs ys h p = p

claims_of_up : (f : ℕ → ℕ) → IsRunning f → (i t : ℕ) (ls : List Link) → AllBelow (claims_of f i t ls) (claims_of f i (suc t) ls)
claims_of_up f up i t [] = tt
claims_of_up f up i t (l ∷ ls) =
    below_if (is_from i l.from) (f (before l.order_lead t)) (f (before l.order_lead (suc t))) (claims_of f i t ls) (claims_of f i (suc t) ls) (before_up f up l.order_lead t) (claims_of_up f up i t ls)

pub claims_up : (setting : Setting) (O : ℕ → ℕ → ℕ) (i t j : ℕ) → ((k : ℕ) → k < j → IsRunning (O k)) → AllBelow (claims_upto setting.network.nodes O i t j) (claims_upto setting.network.nodes O i (suc t) j)
claims_up setting O i t zero up = tt
claims_up setting O i t (suc j) up =
    below_append _ _ _ _ (claims_up setting O i t j (λ k lt. up k (omega arith))) (claims_of_up (O j) (up j (omega arith)) i t (spec_at setting j).sources)

-- serving
pub serve_below : (cs vs : List ℕ) (left : ℕ) → AllBelow vs cs → AllBelow (serve cs vs left) cs
serve_below [] [] left p = tt
serve_below [] (v ∷ vs) left p = absurd p
serve_below (c ∷ cs) [] left p = absurd p
serve_below (c ∷ cs) (v ∷ vs) left p = (let a = p.0 in omega arith, serve_below cs vs (left - min (c - v) left) p.1)

pub serve_up : (cs vs : List ℕ) (left : ℕ) → AllBelow vs cs → AllBelow vs (serve cs vs left)
serve_up [] [] left p = tt
serve_up [] (v ∷ vs) left p = absurd p
serve_up (c ∷ cs) [] left p = absurd p
serve_up (c ∷ cs) (v ∷ vs) left p = (omega arith, serve_up cs vs (left - min (c - v) left) p.1)

pub serve_total : (cs vs : List ℕ) (left : ℕ) → AllBelow vs cs → total (serve cs vs left) ≤ total vs + left
serve_total [] [] left p = omega arith
serve_total [] (v ∷ vs) left p = absurd p
serve_total (c ∷ cs) [] left p = absurd p
serve_total (c ∷ cs) (v ∷ vs) left p = let a = serve_total cs vs (left - min (c - v) left) p.1 in omega arith

pub left_is : (cs vs us : List ℕ) (left : ℕ) → AllBelow vs cs → left_over (held cs vs us) left + total (serve cs vs left) ≡ total vs + left
left_is [] [] us left p = omega arith
left_is [] (v ∷ vs) us left p = absurd p
left_is (c ∷ cs) [] us left p = absurd p
left_is (c ∷ cs) (v ∷ vs) us left p = let a = left_is cs vs (drop 1 us) (left - min (c - v) left) p.1 in omega arith

claim_same : (a b c d : ℕ) → a ≡ b → c ≡ d → (let x : Claim = record { due = a; sent = c } in x) ≡ (let y : Claim = record { due = b; sent = d } in y)
claim_same a b c d e f = λ i. record { due = e i; sent = f i }

pub held_served : (cs vs us : List ℕ) (left : ℕ) → AllBelow vs cs → claims_served (held cs vs us) left ≡ held cs (serve cs vs left) vs
held_served [] [] us left p = refl
held_served [] (v ∷ vs) us left p = absurd p
held_served (c ∷ cs) [] us left p = absurd p
held_served (c ∷ cs) (v ∷ vs) us left p =
    let e : c - v - min (c - v) left ≡ c - (v + min (c - v) left) = omega arith in
    let f : min (c - v) left ≡ v + min (c - v) left - v = omega arith in
    λ i. claim_same (c - v - min (c - v) left) (c - (v + min (c - v) left)) (min (c - v) left) (v + min (c - v) left - v) e f i ∷ held_served cs vs (drop 1 us) (left - min (c - v) left) p.1 i

pub held_unsent : (cs vs us : List ℕ) → map unsent (held cs vs us) ≡ held cs vs vs
held_unsent [] vs us = refl
held_unsent (c ∷ cs) vs us =
    let f : 0 ≡ get_or vs 0 0 - get_or vs 0 0 = omega arith in
    λ i. claim_same (c - get_or vs 0 0) (c - get_or vs 0 0) 0 (get_or vs 0 0 - get_or vs 0 0) refl f i ∷ held_unsent cs (drop 1 vs) (drop 1 us) i

-- new claims
pub held_more : (ds cs vs us : List ℕ) → AllBelow vs cs → AllBelow cs ds → added (less ds cs) (held cs vs us) ≡ held ds vs us
held_more [] [] vs us p q = refl
held_more [] (c ∷ cs) vs us p q = absurd q
held_more (d ∷ ds) [] vs us p q = absurd q
held_more (d ∷ ds) (c ∷ cs) [] us p q = absurd p
held_more (d ∷ ds) (c ∷ cs) (v ∷ vs) us p q =
    let e : c - v + (d - c) ≡ d - v = let a = p.0 in let b = q.0 in omega arith in
    λ i. claim_same (c - v + (d - c)) (d - v) (v - get_or us 0 0) (v - get_or us 0 0) e refl i ∷ held_more ds cs vs (drop 1 us) p.1 q.1 i

pub less_total : (ds cs : List ℕ) → AllBelow cs ds → total cs + total (less ds cs) ≡ total ds
less_total [] [] q = omega arith
less_total [] (c ∷ cs) q = absurd q
less_total (d ∷ ds) [] q = absurd q
less_total (d ∷ ds) (c ∷ cs) q = let a = q.0 in let b = less_total ds cs q.1 in omega arith
