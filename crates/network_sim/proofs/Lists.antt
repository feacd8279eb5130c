-- Lists, and what is done to each of their entries.
use Rattle.std.proofs.Common.{◌≡◌, ℕ, zero, suc, ◌<◌, List, [], ◌∷◌, ◌++◌, length, map, refl, ap, arith, get_or, drop, ◌+◌, ◌≤◌, add-one, ◌∙◌, sym, subst, ◌⊎◌, inl, inr}
use Rattle.std.proofs.Math.ListN.{set}
use Rattle.std.proofs.lemmas.Bool.{cases_lt}
use Rattle.std.proofs.lemmas.List.{get_or-set_same, get_or-set_other}
use Rattle.node_state.specs.Totals.{Line}
use Rattle.node_state.specs.Table.{costs}
use Rattle.network_sim.specs.Machine.{sum_at, no_line}

pub map_at : {X Y : Type 0} (f : X → Y) (xs : List X) (i : ℕ) (d : X) (e : Y) → i < length xs → get_or (map f xs) i e ≡ f (get_or xs i d)
map_at f [] i d e lt = absurd (omega arith)
map_at f (x ∷ xs) zero d e lt = refl
map_at f (x ∷ xs) (suc i) d e lt = map_at f xs i d e (omega arith)

-- the sum of entries from one place on
pub sum_from : (ks xs : List ℕ) (i d : ℕ) → i < length ks → sum_at (drop i ks) xs ≡ get_or xs (get_or ks i d) 0 + sum_at (drop (i + 1) ks) xs
sum_from [] xs i d lt = absurd (omega arith)
sum_from (k ∷ ks) xs zero d lt = refl
sum_from (k ∷ ks) xs (suc i) d lt = rw (add-one (suc i)) (rw (add-one i) at (sum_from ks xs i d (omega arith)))

pub sum_past : (ks xs : List ℕ) → sum_at (drop (length ks) ks) xs ≡ 0
sum_past [] xs = refl
sum_past (k ∷ ks) xs = sum_past ks xs

-- one more entry is written
pub written : {X : Type 0} (xs : List X) (i : ℕ) (v d : X) (f : ℕ → X) → i < length xs → ((k : ℕ) → k < i → get_or xs k d ≡ f k) → v ≡ f i →
    (k : ℕ) → k < i + 1 → get_or (set xs i v) k d ≡ f k
written xs i v d f lt done here k less = by (cases_lt k i)
  where
    by : (k < i) ⊎ (i ≤ k) → get_or (set xs i v) k d ≡ f k
    by (inl small) = get_or-set_other xs i k v d (omega arith) ∙ done k small
    by (inr ge) = let same : i ≡ k = omega arith in subst (λ n. get_or (set xs i v) n d ≡ f n) same (get_or-set_same xs i v d lt ∙ here)

-- a fact of all entries
pub all_written : {X : Type 0} (xs : List X) (i : ℕ) (v d : X) (P : X → Type 0) → i < length xs → ((k : ℕ) → k < i → P (get_or xs k d)) → P v →
    (k : ℕ) → k < i + 1 → P (get_or (set xs i v) k d)
all_written xs i v d P lt done here k less = by (cases_lt k i)
  where
    by : (k < i) ⊎ (i ≤ k) → P (get_or (set xs i v) k d)
    by (inl small) = subst P (sym (get_or-set_other xs i k v d (omega arith))) (done k small)
    by (inr ge) = let same : i ≡ k = omega arith in subst (λ n. P (get_or (set xs i v) n d)) same (subst P (sym (get_or-set_same xs i v d lt)) here)

-- the others stay
pub kept : {X : Type 0} (xs : List X) (i : ℕ) (v d : X) (f : ℕ → X) → ((k : ℕ) → i ≤ k → get_or xs k d ≡ f k) → (k : ℕ) → i + 1 ≤ k → get_or (set xs i v) k d ≡ f k
kept xs i v d f rest k more = get_or-set_other xs i k v d (omega arith) ∙ rest k (omega arith)

-- costs from one line on
pub costs_from : (ls : List Line) (i : ℕ) (d : Line) → i < length ls → costs (drop i ls) ≡ (get_or ls i d).cost + costs (drop (i + 1) ls)
costs_from [] i d lt = absurd (omega arith)
costs_from (l ∷ ls) zero d lt = refl
costs_from (l ∷ ls) (suc i) d lt = rw (add-one (suc i)) (rw (add-one i) at (costs_from ls i d (omega arith)))

pub costs_past : (ls : List Line) → costs (drop (length ls) ls) ≡ 0
costs_past [] = refl
costs_past (l ∷ ls) = costs_past ls

pub same_lines : (xs ys : List Line) → length xs ≡ length ys → ((k : ℕ) → k < length xs → get_or xs k no_line ≡ get_or ys k no_line) → xs ≡ ys
same_lines [] [] e h = refl
same_lines [] (y ∷ ys) e h = absurd (omega arith)
same_lines (x ∷ xs) [] e h = absurd (omega arith)
same_lines (x ∷ xs) (y ∷ ys) e h = λ j. h 0 (omega arith) j ∷ same_lines xs ys (omega arith) (λ k lt. h (suc k) (omega arith)) j

get_before : {X : Type 0} (xs ys : List X) (k : ℕ) (d : X) → k < length xs → get_or (xs ++ ys) k d ≡ get_or xs k d
get_before [] ys k d lt = absurd (omega arith)
get_before (x ∷ xs) ys zero d lt = refl
get_before (x ∷ xs) ys (suc k) d lt = get_before xs ys k d (omega arith)

get_last : {X : Type 0} (xs : List X) (x d : X) → get_or (xs ++ x ∷ []) (length xs) d ≡ x
get_last [] x d = refl
get_last (y ∷ ys) x d = get_last ys x d

-- a fact of all entries, one more of which is entered at the end
pub pushed : {X : Type 0} (P : ℕ → X → Type 0) (xs : List X) (x d : X) (i : ℕ) → length xs ≡ i → ((k : ℕ) → k < i → P k (get_or xs k d)) → P i x →
    (k : ℕ) → k < i + 1 → P k (get_or (xs ++ x ∷ []) k d)
pushed P xs x d i e done here k less = by (cases_lt k i)
  where
    by : (k < i) ⊎ (i ≤ k) → P k (get_or (xs ++ x ∷ []) k d)
    by (inl small) = subst (P k) (sym (get_before xs (x ∷ []) k d (omega arith))) (done k small)
    by (inr ge) =
        let same : i ≡ k = omega arith in
        subst (λ n. P n (get_or (xs ++ x ∷ []) n d)) same (subst (P i) (sym (ap (λ n. get_or (xs ++ x ∷ []) n d) (sym e) ∙ get_last xs x d)) here)

-- a fact of the entries that are left
pub kept_all : {X : Type 0} (P : ℕ → X → Type 0) (xs : List X) (i n : ℕ) (v d : X) → ((k : ℕ) → i ≤ k → k < n → P k (get_or xs k d)) → (k : ℕ) → i + 1 ≤ k → k < n → P k (get_or (set xs i v) k d)
kept_all P xs i n v d rest k more lt = subst (P k) (sym (get_or-set_other xs i k v d (omega arith))) (rest k (omega arith) lt)
