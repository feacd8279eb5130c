-- One node's totals: which never fall, and which stay below which.
use Rattle.std.proofs.Common.{◌≡◌, ℕ, zero, suc, ◌+◌, ◌-◌, ◌≤◌, min, Bool, true, false, cond, List, [], ◌∷◌, map, refl, ◌∙◌, ap, arith}
use Rattle.std.specs.List.{All}
use Rattle.std.proofs.lemmas.List.Elements.{All-weaker, All-head, All-tail, All-cons, All-nil}
use Rattle.node_state.specs.Holdings.{Leg, least_raw, least_raw_from, total}
use Rattle.node_state.specs.Totals.{Setting, spec_at, before, shipped, received, made, least, least_from, claims_on, all_claims, receipts_paused}
use Rattle.network_sim.specs.Windows.{IsRunning, before_up}
use Rattle.network_sim.specs.Claims.{AllBelow}
use Rattle.network_model.specs.declared.network.Link.{Link}

-- what comes on a link never passes what was ordered on it
pub record IsSteadyLeg (setting : Setting) (O : ℕ → ℕ → ℕ) (V : ℕ → ℕ → List ℕ) (i : ℕ) (l : Link) : Type 0 where
  pub shipped_up : IsRunning (shipped setting O V i l)
  pub shipped_most : (t : ℕ) → shipped setting O V i l t ≤ O i (before l.order_lead t)

pub record IsSteady (setting : Setting) (O : ℕ → ℕ → ℕ) (V : ℕ → ℕ → List ℕ) (i : ℕ) : Type 0 where
  pub orders_up : IsRunning (O i)
  pub claims_rise : (t : ℕ) → AllBelow (claims_on setting.network.nodes O i t) (claims_on setting.network.nodes O i (suc t))
  pub legs : All (IsSteadyLeg setting O V i) (spec_at setting i).sources
  pub within : (t : ℕ) → AllBelow (V i t) (all_claims setting O i t)
  pub stocked : (t : ℕ) → total (V i t) ≤ (spec_at setting i).initial + made setting O V i t

cond_most : (b : Bool) (x y m : ℕ) → x ≤ m → y ≤ m → cond b x y ≤ m
cond_most true x y m p q = p
cond_most false x y m p q = q

pub received_most : (setting : Setting) (O : ℕ → ℕ → ℕ) (V : ℕ → ℕ → List ℕ) (i : ℕ) (l : Link) → IsSteadyLeg setting O V i l → (t : ℕ) → received setting O V i l t ≤ shipped setting O V i l (before l.lead t)
received_most setting O V i l s zero = omega arith
received_most setting O V i l s (suc t) =
    cond_most (receipts_paused setting i (suc t)) _ _ _
    (let a = received_most setting O V i l s t in let b = before_up (shipped setting O V i l) s.shipped_up l.lead t in omega arith)
    (omega arith)

cond_least : (b : Bool) (x y m : ℕ) → m ≤ x → m ≤ y → m ≤ cond b x y
cond_least true x y m p q = p
cond_least false x y m p q = q

pub received_up : (setting : Setting) (O : ℕ → ℕ → ℕ) (V : ℕ → ℕ → List ℕ) (i : ℕ) (l : Link) → IsSteadyLeg setting O V i l → (t : ℕ) → received setting O V i l t ≤ received setting O V i l (suc t)
received_up setting O V i l s t =
    cond_least (receipts_paused setting i (suc t)) _ _ _ (omega arith)
    (let a = received_most setting O V i l s t in let b = before_up (shipped setting O V i l) s.shipped_up l.lead t in omega arith)

-- the least of several
least_from_up : (f g : Link → ℕ) (ls : List Link) (m n : ℕ) → m ≤ n → All (λ l. f l ≤ g l) ls → least_from m (map f ls) ≤ least_from n (map g ls)
least_from_up f g [] m n le p = le
least_from_up f g (l ∷ ls) m n le p =
    least_from_up f g ls (min (f l) m) (min (g l) n) (let a = All-head (λ l. f l ≤ g l) l ls p in omega arith) (All-tail (λ l. f l ≤ g l) l ls p)

pub least_up : (f g : Link → ℕ) (ls : List Link) → All (λ l. f l ≤ g l) ls → least (map f ls) ≤ least (map g ls)
least_up f g [] p = omega arith
least_up f g (l ∷ ls) p = least_from_up f g ls (f l) (g l) (All-head (λ l. f l ≤ g l) l ls p) (All-tail (λ l. f l ≤ g l) l ls p)

from_most : (f : Link → ℕ) (m : ℕ) (ls : List Link) → least_from m (map f ls) ≤ m
from_most f m [] = omega arith
from_most f m (l ∷ ls) = let a = from_most f (min (f l) m) ls in omega arith

from_below : (f : Link → ℕ) (m : ℕ) (ls : List Link) → All (λ l. least_from m (map f ls) ≤ f l) ls
from_below f m [] = All-nil (λ l. m ≤ f l)
from_below f m (l ∷ ls) =
    All-cons (λ k. least_from (min (f l) m) (map f ls) ≤ f k) l ls (let a = from_most f (min (f l) m) ls in omega arith) (from_below f (min (f l) m) ls)

pub least_most : (f : Link → ℕ) (ls : List Link) → All (λ l. least (map f ls) ≤ f l) ls
least_most f [] = All-nil (λ l. 0 ≤ f l)
least_most f (l ∷ ls) = All-cons (λ k. least_from (f l) (map f ls) ≤ f k) l ls (from_most f (f l) ls) (from_below f (f l) ls)

-- the least of what is raw
raw_from : (f : Link → ℕ) (h : Link → Leg) (m a : ℕ) → ((l : Link) → (h l).raw ≡ f l - m) → (ls : List Link) → least_raw_from (a - m) (map h ls) ≡ least_from a (map f ls) - m
raw_from f h m a e [] = refl
raw_from f h m a e (l ∷ ls) =
    let d : min (h l).raw (a - m) ≡ min (f l) a - m = let b = e l in omega arith in
    ap (λ x. least_raw_from x (map h ls)) d ∙ raw_from f h m (min (f l) a) e ls

pub raw_least : (f : Link → ℕ) (h : Link → Leg) (m : ℕ) → ((l : Link) → (h l).raw ≡ f l - m) → (ls : List Link) → least_raw (map h ls) ≡ least (map f ls) - m
raw_least f h m e [] = omega arith
raw_least f h m e (l ∷ ls) = ap (λ x. least_raw_from x (map h ls)) (e l) ∙ raw_from f h m (f l) e ls

pub made_up : (setting : Setting) (O : ℕ → ℕ → ℕ) (V : ℕ → ℕ → List ℕ) (i : ℕ) → All (IsSteadyLeg setting O V i) (spec_at setting i).sources → (t : ℕ) → made setting O V i t ≤ made setting O V i (suc t)
made_up setting O V i legs t =
    least_up (λ l. received setting O V i l t) (λ l. received setting O V i l (suc t)) (spec_at setting i).sources
    (All-weaker (IsSteadyLeg setting O V i) (λ l. received setting O V i l t ≤ received setting O V i l (suc t)) (λ l p. received_up setting O V i l p t) (spec_at setting i).sources legs)
