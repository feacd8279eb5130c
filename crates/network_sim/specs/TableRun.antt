-- The table meets the equations of the network: there is a run.
use Rattle.std.proofs.Common.{◌≡◌, ℕ, zero, suc, ◌+◌, ◌-◌, ◌<◌, ◌≤◌, pos, ◌-ℤ◌, cond, List, [], ◌∷◌, ◌++◌, length, drop, refl, sym, ◌∙◌, ap, subst, arith, get_or, Option, Some, None, length-append, ◌⊎◌, inl, inr, map}
use Rattle.std.specs.List.{All, range_with_len}
use Rattle.std.proofs.lemmas.Bool.{cases_lt}
use Rattle.std.proofs.lemmas.List.Elements.{All-weaker, All-head, All-tail}
use Rattle.node_state.specs.Holdings.{total, zeros}
use Rattle.node_state.specs.Totals.{Setting, spec_at, before, demanded, slot, claims_of, claims_upto, claims_on, all_claims, orders_next, position, asks, order_by, shipped, shipped_from, received, made, least, serve, served_next, IsRun, IsSource, IsShaped, orders_paused, receipts_paused, shipments_paused, line}
use Rattle.node_state.specs.Table.{Period, nothing, orders_at, served_at, orders_of_first, empties, served_from, first_served, table, period_at, orders_of_run, served_of_run, row, lines_from}
use Rattle.network_sim.specs.Runs.{length_upto, at_prefix, at_end}
use Rattle.network_model.specs.declared.network.Link.{Link}
use Rattle.network_model.specs.declared.network.NodeSpec.{NodeSpec}
use Rattle.node_state.specs.Handed.{rule_at}
use Rattle.network_model.specs.Nodes.{is_from, is_echelon}
use Rattle.network_model.specs.Load.{echelon_sum}

-- functions that agree on each entry
pub map_same : {X Y : Type 0} (f g : X → Y) (xs : List X) → All (λ x. f x ≡ g x) xs → map f xs ≡ map g xs
map_same f g [] p = refl
map_same f g (x ∷ xs) p = λ j. All-head (λ x. f x ≡ g x) x xs p j ∷ map_same f g xs (All-tail (λ x. f x ≡ g x) x xs p) j

before_le : (k t : ℕ) → before k t ≤ t
before_le zero t = omega arith
before_le (suc k) zero = omega arith
before_le (suc k) (suc t) = let a = before_le k t in omega arith

-- what depends on totals depends on those it looks at
claims_of_same : (f g : ℕ → ℕ) (i t : ℕ) (ls : List Link) → ((k : ℕ) → f (before k t) ≡ g (before k t)) → claims_of f i t ls ≡ claims_of g i t ls
claims_of_same f g i t [] h = refl
claims_of_same f g i t (l ∷ ls) h = λ j. cond (is_from i l.from) (h l.order_lead j ∷ claims_of_same f g i t ls h j) (claims_of_same f g i t ls h j)

claims_same : (setting : Setting) (O P : ℕ → ℕ → ℕ) (i t n : ℕ) → ((m : ℕ) → m < n → (k : ℕ) → O m (before k t) ≡ P m (before k t)) → claims_upto setting.network.nodes O i t n ≡ claims_upto setting.network.nodes P i t n
claims_same setting O P i t zero h = refl
claims_same setting O P i t (suc n) h =
    λ j. claims_same setting O P i t n (λ m lt. h m (omega arith)) j ++ claims_of_same (O n) (P n) i t (spec_at setting n).sources (h n (omega arith)) j

-- what a node's rule looks at depends on the node's own totals so far, and on those that have reached it
position_same : (setting : Setting) (O P : ℕ → ℕ → ℕ) (i t : ℕ) → O i t ≡ P i t → claims_on setting.network.nodes O i (suc t) ≡ claims_on setting.network.nodes P i (suc t) → position setting O i t ≡ position setting P i t
position_same setting O P i t e c =
    λ j. cond (is_echelon (spec_at setting i).rule)
    (pos (echelon_sum setting.network.nodes i (λ k. (spec_at setting k).initial) (suc i) + e j) -ℤ pos (echelon_sum setting.network.nodes i (λ k. demanded setting k (suc t)) (suc i)))
    (pos ((spec_at setting i).initial + e j) -ℤ pos (demanded setting i (suc t) + total (c j)))

module _ (setting : Setting) (O P : ℕ → ℕ → ℕ) (i : ℕ) where
  asks_same : (t : ℕ) → ((u : ℕ) → u < t → O i u ≡ P i u) → ((u : ℕ) → u ≤ t → claims_on setting.network.nodes O i u ≡ claims_on setting.network.nodes P i u) → asks setting O i t ≡ asks setting P i t
  asks_same zero h c = refl
  asks_same (suc t) h c =
      λ j. asks_same t (λ u less. h u (omega arith)) (λ u le. c u (omega arith)) j
      ++ record {
        position = position_same setting O P i t (h t (omega arith)) (c (suc t) (omega arith)) j;
        seen = (demanded setting i (suc t) + total (c (suc t) (omega arith) j)) - (demanded setting i t + total (c t (omega arith) j));
      } ∷ []

  orders_same : (t : ℕ) → ((u : ℕ) → u < suc t → O i u ≡ P i u) → ((u : ℕ) → u ≤ suc t → claims_on setting.network.nodes O i u ≡ claims_on setting.network.nodes P i u) → orders_next setting O i t ≡ orders_next setting P i t
  orders_same t h c =
      λ j. h t (omega arith) j + cond (orders_paused setting i (suc t)) 0 (order_by (spec_at setting i).rule (position_same setting O P i t (h t (omega arith)) (c (suc t) (omega arith)) j)
      (λ index. get_or ((rule_at setting.handed index).replies (asks_same (suc t) h c j)) t 0))

received_same : (setting : Setting) (O P : ℕ → ℕ → ℕ) (V W : ℕ → ℕ → List ℕ) (i : ℕ) (l : Link) (last : ℕ) → ((u : ℕ) → u ≤ last → shipped setting O V i l u ≡ shipped setting P W i l u) → (t : ℕ) → t ≤ last → received setting O V i l t ≡ received setting P W i l t
received_same setting O P V W i l last h zero le = refl
received_same setting O P V W i l last h (suc t) le =
    λ j. cond (receipts_paused setting i (suc t)) (received_same setting O P V W i l last h t (omega arith) j) (h (before l.lead (suc t)) (let a = before_le l.lead (suc t) in omega arith) j)

shipped_same : (setting : Setting) (O P : ℕ → ℕ → ℕ) (V W : ℕ → ℕ → List ℕ) (i last : ℕ) → ((u : ℕ) → u ≤ last → O i u ≡ P i u) → ((k u : ℕ) → i < k → k < length setting.network.nodes → u ≤ last → V k u ≡ W k u) →
    (from : Option ℕ) (order_lead : ℕ) → IsSource setting.network.nodes i order_lead from → (u : ℕ) → u ≤ last → shipped_from setting O V i from order_lead u ≡ shipped_from setting P W i from order_lead u
shipped_same setting O P V W i last h g None order_lead p u le = h (before order_lead u) (let a = before_le order_lead u in omega arith)
shipped_same setting O P V W i last h g (Some k) order_lead p u le = ap (λ xs. get_or xs (suc (slot setting.network.nodes k i)) 0) (g k u p.0 p.1 le)

served_same : (setting : Setting) (O P : ℕ → ℕ → ℕ) (V W : ℕ → ℕ → List ℕ) (i t : ℕ) → All (λ l. IsSource setting.network.nodes i l.order_lead l.from) (spec_at setting i).sources →
    ((u : ℕ) → u ≤ suc t → O i u ≡ P i u) → ((k u : ℕ) → i < k → k < length setting.network.nodes → u ≤ suc t → V k u ≡ W k u) → V i t ≡ W i t → claims_on setting.network.nodes O i (suc t) ≡ claims_on setting.network.nodes P i (suc t) →
    served_next setting O V i t ≡ served_next setting P W i t
served_same setting O P V W i t links h g e c =
    λ j. cond (shipments_paused setting i (suc t)) (e j) (serve (demanded setting i (suc t) ∷ c j) (e j) ((spec_at setting i).initial + makes j - total (e j)))
  where
    makes : made setting O V i (suc t) ≡ made setting P W i (suc t)
    makes = ap least (map_same (λ l. received setting O V i l (suc t)) (λ l. received setting P W i l (suc t)) (spec_at setting i).sources
        (All-weaker (λ l. IsSource setting.network.nodes i l.order_lead l.from) (λ l. received setting O V i l (suc t) ≡ received setting P W i l (suc t))
        (λ l p. received_same setting O P V W i l (suc t) (shipped_same setting O P V W i (suc t) h g l.from l.order_lead p) (suc t) (omega arith)) (spec_at setting i).sources links))

-- earlier periods stand in the table
entry : (setting : Setting) (k s t : ℕ) → t ≡ s + k → get_or (table setting t) k nothing ≡ period_at setting s
entry setting zero s t e = ap (λ u. get_or (table setting u) 0 nothing) (omega arith)
entry setting (suc k) s zero e = absurd (omega arith)
entry setting (suc k) s (suc t) e = entry setting k s t (omega arith)

past : (setting : Setting) (x : Period) (s t : ℕ) → s ≤ t → get_or (x ∷ table setting t) (suc t - s) nothing ≡ period_at setting s
past setting x s t le =
    let e : suc t - s ≡ suc (t - s) = omega arith in
    ap (λ k. get_or (x ∷ table setting t) k nothing) e ∙ entry setting (t - s) s t (omega arith)

now : (setting : Setting) (x : Period) (t : ℕ) → get_or (x ∷ table setting t) (suc t - suc t) nothing ≡ x
now setting x t = let e : suc t - suc t ≡ 0 = omega arith in ap (λ k. get_or (x ∷ table setting t) k nothing) e

at_end_of : (xs : List ℕ) (v k : ℕ) → k ≡ length xs → get_or (xs ++ v ∷ []) k 0 ≡ v
at_end_of xs v k e = ap (λ n. get_or (xs ++ v ∷ []) n 0) e ∙ at_end xs v

module _ (setting : Setting) (t : ℕ) where
  abbrev first : ℕ → List ℕ
  first i = orders_of_first setting (table setting t) t i

  abbrev value : ℕ → ℕ
  value i = orders_next setting (orders_at (record { orders = first i; served = [] } ∷ table setting t) (suc t)) i t

  first_length : (i : ℕ) → length (first i) ≡ i
  first_length zero = refl
  first_length (suc i) = let a = length-append (first i) (value i ∷ []) in let b = first_length i in omega arith

  first_at : (i j : ℕ) → j < i → get_or (first i) j 0 ≡ value j
  first_at zero j lt = absurd (omega arith)
  first_at (suc i) j lt = by (cases_lt j i) (first_at i j)
    where
      by : (j < i) ⊎ (i ≤ j) → (j < i → get_or (first i) j 0 ≡ value j) → get_or (first (suc i)) j 0 ≡ value j
      by (inl less) h = at_prefix (first i) (value i ∷ []) j (let a = first_length i in omega arith) ∙ h less
      by (inr le) h = let same : i ≡ j = omega arith in at_end_of (first i) (value i) j (let a = first_length i in omega arith) ∙ ap value same

  orders_meet : (i : ℕ) → i < length setting.network.nodes → orders_of_run setting i (suc t) ≡ orders_next setting (orders_of_run setting) i t
  orders_meet i lt =
      first_at (length setting.network.nodes) i lt
      ∙ orders_same setting (orders_at (record { orders = first i; served = [] } ∷ table setting t) (suc t)) (orders_of_run setting) i t
      (λ u less. ap (λ (p : Period). get_or p.orders i 0) (past setting (record { orders = first i; served = [] }) u t (omega arith)))
      (λ u le. claims_same setting (orders_at (record { orders = first i; served = [] } ∷ table setting t) (suc t)) (orders_of_run setting) i u i
      (λ m less k. known m less (before k u) (cases_lt t (before k u)) (let a = before_le k u in omega arith)))
    where
      known : (m : ℕ) → m < i → (u : ℕ) → (t < u) ⊎ (u ≤ t) → u ≤ suc t → orders_at (record { orders = first i; served = [] } ∷ table setting t) (suc t) m u ≡ orders_of_run setting m u
      known m less u (inr old) le = ap (λ (p : Period). get_or p.orders m 0) (past setting (record { orders = first i; served = [] }) u t old)
      known m less u (inl new) le =
          let same : suc t ≡ u = omega arith in
          subst (λ v. orders_at (record { orders = first i; served = [] } ∷ table setting t) (suc t) m v ≡ orders_of_run setting m v) same
          (ap (λ (p : Period). get_or p.orders m 0) (now setting (record { orders = first i; served = [] }) t) ∙ first_at i m less ∙ sym (first_at (length setting.network.nodes) m (omega arith)))

  abbrev whole : List ℕ
  whole = first (length setting.network.nodes)

  abbrev above : ℕ → List NodeSpec → List (List ℕ)
  above i ss = served_from setting (table setting t) t whole i ss

  abbrev known_at : ℕ → List (List ℕ) → List Period
  known_at i xs = record { orders = whole; served = empties (suc i) ++ xs } ∷ table setting t

  from_at : (ss : List NodeSpec) (i k m : ℕ) → m ≡ i + k → k < length ss →
      get_or (above i ss) k [] ≡ served_next setting (orders_at (known_at m (above (suc m) (drop (suc k) ss))) (suc t)) (served_at (known_at m (above (suc m) (drop (suc k) ss))) (suc t)) m t
  from_at [] i k m e lt = absurd (omega arith)
  from_at (s ∷ ss) i zero m e lt =
      let same : i ≡ m = omega arith in
      ap (λ n. served_next setting (orders_at (known_at n (above (suc n) ss)) (suc t)) (served_at (known_at n (above (suc n) ss)) (suc t)) n t) same
  from_at (s ∷ ss) i (suc k) m e lt = from_at ss (suc i) k m (omega arith) (omega arith)

  later : (ss : List NodeSpec) (i p q n k : ℕ) → n ≡ i + p → k ≡ p + q → get_or (above n (drop p ss)) q [] ≡ get_or (above i ss) k []
  later ss i zero q n k e f = let same : n ≡ i = omega arith in let here : q ≡ k = omega arith in λ j. get_or (above (same j) ss) (here j) []
  later [] i (suc p) q n k e f = refl
  later (s ∷ ss) i (suc p) q n zero e f = absurd (omega arith)
  later (s ∷ ss) i (suc p) q n (suc k) e f = later ss (suc i) p q n k (omega arith) (omega arith)

  behind : (p q k : ℕ) (xs : List (List ℕ)) → k ≡ p + q → get_or (empties p ++ xs) k [] ≡ get_or xs q []
  behind zero q k xs e = ap (λ n. get_or xs n []) (omega arith)
  behind (suc p) q zero xs e = absurd (omega arith)
  behind (suc p) q (suc k) xs e = behind p q k xs (omega arith)

  served_meet : IsShaped setting.network.nodes → (i : ℕ) → i < length setting.network.nodes → served_of_run setting i (suc t) ≡ served_next setting (orders_of_run setting) (served_of_run setting) i t
  served_meet shape i lt =
      from_at setting.network.nodes 0 i i (omega arith) lt
      ∙ served_same setting (orders_at here (suc t)) (orders_of_run setting) (served_at here (suc t)) (served_of_run setting) i t (shape i lt)
      (λ u le. orders_known i u (cases_lt t u) le) (λ k u more in_k le. served_known k u more in_k (cases_lt t u) le)
      (ap (λ (p : Period). get_or p.served i []) (past setting _ t t (omega arith)))
      (claims_same setting (orders_at here (suc t)) (orders_of_run setting) i (suc t) i (λ m less k. orders_known m (before k (suc t)) (cases_lt t (before k (suc t))) (before_le k (suc t))))
    where
      rest : List (List ℕ)
      rest = above (suc i) (drop (suc i) setting.network.nodes)

      here : List Period
      here = known_at i (above (suc i) (drop (suc i) setting.network.nodes))

      orders_known : (m u : ℕ) → (t < u) ⊎ (u ≤ t) → u ≤ suc t → orders_at (known_at i (above (suc i) (drop (suc i) setting.network.nodes))) (suc t) m u ≡ orders_of_run setting m u
      orders_known m u (inr old) le = ap (λ (p : Period). get_or p.orders m 0) (past setting _ u t old)
      orders_known m u (inl new) le =
          let same : suc t ≡ u = omega arith in
          subst (λ v. orders_at (known_at i (above (suc i) (drop (suc i) setting.network.nodes))) (suc t) m v ≡ orders_of_run setting m v) same (ap (λ (p : Period). get_or p.orders m 0) (now setting (record { orders = whole; served = empties (suc i) ++ above (suc i) (drop (suc i) setting.network.nodes) }) t))

      served_known : (k u : ℕ) → i < k → k < length setting.network.nodes → (t < u) ⊎ (u ≤ t) → u ≤ suc t → served_at (known_at i (above (suc i) (drop (suc i) setting.network.nodes))) (suc t) k u ≡ served_of_run setting k u
      served_known k u more in_k (inr old) le = ap (λ (p : Period). get_or p.served k []) (past setting _ u t old)
      served_known k u more in_k (inl new) le =
          let same : suc t ≡ u = omega arith in
          subst (λ v. served_at (known_at i (above (suc i) (drop (suc i) setting.network.nodes))) (suc t) k v ≡ served_of_run setting k v) same
          (ap (λ (p : Period). get_or p.served k []) (now setting (record { orders = whole; served = empties (suc i) ++ above (suc i) (drop (suc i) setting.network.nodes) }) t)
          ∙ behind (suc i) (k - suc i) k (above (suc i) (drop (suc i) setting.network.nodes)) (omega arith)
          ∙ later setting.network.nodes 0 (suc i) (k - suc i) (suc i) k (omega arith) (omega arith))

zeros_at : (n i : ℕ) → get_or (zeros n) i 0 ≡ 0
zeros_at zero i = refl
zeros_at (suc n) zero = refl
zeros_at (suc n) (suc i) = zeros_at n i

first_served_at : (setting : Setting) (i : ℕ) (ss : List NodeSpec) (k m : ℕ) → m ≡ i + k → k < length ss → get_or (first_served setting i ss) k [] ≡ zeros (length (all_claims setting (λ j t. 0) m 0))
first_served_at setting i [] k m e lt = absurd (omega arith)
first_served_at setting i (s ∷ ss) zero m e lt = let same : i ≡ m = omega arith in ap (λ n. zeros (length (all_claims setting (λ j t. 0) n 0))) same
first_served_at setting i (s ∷ ss) (suc k) m e lt = first_served_at setting (suc i) ss k m (omega arith) (omega arith)

pub table_is_run : (setting : Setting) → IsShaped setting.network.nodes → IsRun setting (orders_of_run setting) (served_of_run setting)
table_is_run setting shape = record {
  no_orders = λ i. zeros_at (length setting.network.nodes) i;
  none_served = λ i lt. first_served_at setting 0 setting.network.nodes i i (omega arith) lt ∙ ap (λ n. zeros (suc n)) (length_upto setting (λ j t. 0) (orders_of_run setting) i 0 0 i);
  orders = λ i t lt. orders_meet setting t i lt;
  served = λ i t lt. served_meet setting t shape i lt;
}

-- ---- rows
pub lines_length : (setting : Setting) (t i : ℕ) (nodes : List NodeSpec) → length (lines_from setting t i nodes) ≡ length nodes
lines_length setting t i [] = refl
lines_length setting t i (n ∷ ns) = ap suc (lines_length setting t (suc i) ns)

-- the lines of the nodes from place i on, one by one
lines_each : (setting : Setting) (t i : ℕ) (nodes : List NodeSpec) →
    lines_from setting t i nodes ≡ map (λ k. line setting (orders_of_run setting) (served_of_run setting) k t) (range_with_len i (length nodes))
lines_each setting t i [] = refl
lines_each setting t i (n ∷ ns) =
    let lines = λ (from : ℕ). map (λ k. line setting (orders_of_run setting) (served_of_run setting) k t) (range_with_len from (length ns)) in
    let next : suc i ≡ i + 1 = omega arith in
    ap (λ ls. line setting (orders_of_run setting) (served_of_run setting) i t ∷ ls) (lines_each setting t (suc i) ns ∙ ap lines next)

-- the row of a period has the line of each node, by the table's orders and served units
pub row_lines : (setting : Setting) (t : ℕ) →
    row setting t ≡ map (λ k. line setting (orders_of_run setting) (served_of_run setting) k t) (range_with_len 0 (length setting.network.nodes))
row_lines setting t = lines_each setting t 0 setting.network.nodes
