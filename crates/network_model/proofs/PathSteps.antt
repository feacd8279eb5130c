-- Counts of paths that stop at 2, filled in from the last node down.
use Rattle.std.proofs.Common.{◌≡◌, ◌⊎◌, ℕ, suc, ◌<◌, ◌≤◌, min, List, [], ◌∷◌, length, slice_index, set, take, Bool, not, ◌||◌, true, false, cond, nat_le, Option, Some, None, inl, inr, refl, sym, ◌∙◌, ap, subst, arith, get_or-set_same, get_or-set_other, get_or-take}
use Rattle.std.proofs.lemmas.List.{length-take-le}
use Rattle.std.proofs.lemmas.Bool.Decides.{nat_tests}
use Rattle.std.proofs.lemmas.Bool.{cases_lt}
use Rattle.network_model.specs.declared.network.NodeSpec.{NodeSpec}
use Rattle.network_model.specs.declared.network.Link.{Link}
use Rattle.network_model.specs.Nodes.{node_at, is_echelon, each_below}
use Rattle.network_model.specs.Shape.{paths_through, paths_over, paths, has_single_paths}
use Rattle.network_model.proofs.Failing.{below_alike}
use Rattle.network_model.specs.Paths.{AreLaterBelow, CountsPaths, over_alike, paths_here, paths_next}

through_capped : (f : ℕ → ℕ) (k : ℕ) (from : Option ℕ) → paths_through (λ m. min 2 (f m)) k from ≡ min 2 (paths_through f k from)
through_capped f k None = omega arith
through_capped f k (Some m) = by_test (nat_le m k)
  where
    by_test : (b : Bool) → cond b (min 2 (f m)) 0 ≡ min 2 (cond b (f m) 0)
    by_test true = refl
    by_test false = omega arith

-- counts that stop at 2 make the sum that stops at 2
over_capped : (f : ℕ → ℕ) (k : ℕ) (links : List Link) → min 2 (paths_over (λ m. min 2 (f m)) k links) ≡ min 2 (paths_over f k links)
over_capped f k [] = refl
over_capped f k (l ∷ ls) = omega (arith, through_capped f k l.from, over_capped f k ls)

-- the count of the last node
pub counts_here : (nodes : List NodeSpec) (k : ℕ) (xs : List ℕ) → k < length xs → CountsPaths nodes k (set xs k 1) k
counts_here nodes k xs lt j least most =
    let e : k ≡ j = omega arith in
    subst (λ (i : ℕ). slice_index (set xs k 1) i ≡ min 2 (paths nodes k i)) e (get_or-set_same xs k 1 0 lt ∙ sym (ap (min 2) (paths_here nodes k)))

next_count : (nodes : List NodeSpec) (k j : ℕ) (xs : List ℕ) → AreLaterBelow nodes k → j < k → ((m : ℕ) → j < m → m ≤ k → slice_index xs m ≡ min 2 (paths nodes k m)) → min 2 (paths_over (slice_index xs) k (node_at nodes j).sources) ≡ min 2 (paths nodes k j)
next_count nodes k j xs later lt counted =
    ap (min 2) (over_alike (slice_index xs) (λ m. min 2 (paths nodes k m)) (length nodes) k j (node_at nodes j).sources counted (later j lt))
    ∙ over_capped (paths nodes k) k (node_at nodes j).sources
    ∙ sym (ap (min 2) (paths_next nodes k j later lt))

-- the count of the node before
pub counts_next : (nodes : List NodeSpec) (k i j x : ℕ) (xs : List ℕ) → AreLaterBelow nodes k → i ≡ suc j → i ≤ k → k < length xs → CountsPaths nodes k xs i → x ≡ min 2 (paths_over (slice_index xs) k (node_at nodes j).sources) → CountsPaths nodes k (set xs j x) j
counts_next nodes k i j x xs later next within fits counted here m least most = by_place (cases_lt j m)
  where
    by_place : (j < m) ⊎ (m ≤ j) → slice_index (set xs j x) m ≡ min 2 (paths nodes k m)
    by_place (inl less) = get_or-set_other xs j m x 0 (omega arith) ∙ counted m (omega arith) most
    by_place (inr same) =
        let e : j ≡ m = omega arith in
        let value : x ≡ min 2 (paths nodes k j) = here ∙ next_count nodes k j xs later (omega arith) (λ n less most. counted n (omega arith) most) in
        subst (λ (i : ℕ). slice_index (set xs j x) i ≡ min 2 (paths nodes k i)) e (get_or-set_same xs j x 0 (omega arith) ∙ value)

-- ---- whether there are single paths
pub single_counts : (nodes : List NodeSpec) (k : ℕ) (xs : List ℕ) → k ≤ length xs → is_echelon (node_at nodes k).rule ≡ true → CountsPaths nodes k xs 0 → each_below (λ j. nat_le (slice_index (take k xs) j) 1) (length (take k xs)) ≡ has_single_paths nodes k
single_counts nodes k xs fits is counted =
    ap (each_below (λ j. nat_le (slice_index (take k xs) j) 1)) (length-take-le k xs fits)
    ∙ below_alike (λ j. nat_le (slice_index (take k xs) j) 1) (λ j. nat_le (paths nodes k j) 1) k (λ j lt. ap (λ x. nat_le x 1) (get_or-take k xs j 0 lt ∙ counted j (omega arith) (omega arith)) ∙ capped (paths nodes k j))
    ∙ sym (ap (λ b. not b || each_below (λ j. nat_le (paths nodes k j) 1) k) is)
  where
    capped : (x : ℕ) → nat_le (min 2 x) 1 ≡ nat_le x 1
    capped x = grind (arith, nat_tests)
