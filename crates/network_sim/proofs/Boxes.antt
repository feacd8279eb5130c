-- Lists of boxes, known by what each means.
use Rattle.std.proofs.Common.{◌≡◌, ◌≢◌, ℕ, zero, suc, ◌+◌, ◌<◌, ◌≤◌, List, [], ◌∷◌, ◌++◌, length, map, take, slice_index_or, slice_set, refl, sym, ◌∙◌, ap, arith, add-one}
use Rattle.node_state.specs.Handed.{Ask, Handed, rule_at}

pub meant_at : {X : Type 0} (f : X → Handed) (xs : List X) (i : ℕ) (x : X) → i < length xs → rule_at (map f xs) i ≡ f (slice_index_or xs i x)
meant_at f [] i x lt = absurd (omega arith)
meant_at f (a ∷ xs) zero x lt = refl
meant_at f (a ∷ xs) (suc i) x lt = meant_at f xs i x (omega arith)

pub meant_set : {X : Type 0} (f : X → Handed) (xs : List X) (i : ℕ) (x : X) → i < length xs → rule_at (map f (slice_set xs i x)) i ≡ f x
meant_set f [] i x lt = absurd (omega arith)
meant_set f (a ∷ xs) zero x lt = refl
meant_set f (a ∷ xs) (suc i) x lt = meant_set f xs i x (omega arith)

pub meant_other : {X : Type 0} (f : X → Handed) (xs : List X) (i k : ℕ) (x : X) → k ≢ i → rule_at (map f (slice_set xs i x)) k ≡ rule_at (map f xs) k
meant_other f [] i k x ne = refl
meant_other f (a ∷ xs) zero zero x ne = absurd (ne refl)
meant_other f (a ∷ xs) zero (suc k) x ne = refl
meant_other f (a ∷ xs) (suc i) zero x ne = refl
meant_other f (a ∷ xs) (suc i) (suc k) x ne = meant_other f xs i k x (λ e. ne (ap suc e))

-- one of them is asked
pub asked_at : {X : Type 0} (f : X → Handed) (xs : List X) (i : ℕ) (x y : X) (a : Ask) (rest : List Ask) (answer : ℕ) → i < length xs →
    (f (slice_index_or xs i x)).replies (a ∷ rest) ≡ answer ∷ (f y).replies rest → (rule_at (map f xs) i).replies (a ∷ rest) ≡ answer ∷ (rule_at (map f (slice_set xs i y)) i).replies rest
asked_at f xs i x y a rest answer lt e =
    ap (λ (r : Handed). r.replies (a ∷ rest)) (meant_at f xs i x lt) ∙ e ∙ ap (λ (r : Handed). answer ∷ r.replies rest) (sym (meant_set f xs i y lt))

pub map_length : {X Y : Type 0} (f : X → Y) (xs : List X) → length (map f xs) ≡ length xs
map_length f [] = refl
map_length f (x ∷ xs) = ap suc (map_length f xs)

pub taken_most : (handed : List Handed) (i : ℕ) → i < length handed → take i (map (λ (r : Handed). r.most) handed) ++ (rule_at handed i).most ∷ [] ≡ take (i + 1) (map (λ (r : Handed). r.most) handed)
taken_most [] i lt = absurd (omega arith)
taken_most (h ∷ hs) zero lt = refl
taken_most (h ∷ hs) (suc i) lt = rw (add-one (suc i)) (ap (λ xs. h.most ∷ xs) (rw (add-one i) at (taken_most hs i (omega arith))))

pub taken_all : (xs : List ℕ) (n : ℕ) → length xs ≤ n → take n xs ≡ xs
taken_all [] zero le = refl
taken_all [] (suc n) le = refl
taken_all (x ∷ xs) zero le = absurd (omega arith)
taken_all (x ∷ xs) (suc n) le = ap (λ ys. x ∷ ys) (taken_all xs n (omega arith))
