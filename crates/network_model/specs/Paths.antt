-- Paths over sources, where sources are listed later: they are counted node by node, from the last one down.
use Rattle.std.proofs.Common.{◌≡◌, ◌⊎◌, ℕ, zero, suc, ◌+◌, ◌<◌, ◌≤◌, min, List, [], ◌∷◌, length, slice_index, Bool, true, false, cond, ◌==◌, ◌&&◌, nat_le, nat_lt, Option, Some, None, inl, inr, refl, sym, ◌∙◌, ap, arith}
use Rattle.std.specs.List.{list_all}
use Rattle.std.proofs.lemmas.Bool.{cases_lt, leb-true, ltb-true, eq-eqb}
use Rattle.network_model.specs.declared.network.NodeSpec.{NodeSpec}
use Rattle.network_model.specs.declared.network.Link.{Link}
use Rattle.network_model.specs.Nodes.{node_at}
use Rattle.network_model.specs.Shape.{is_later, paths_through, paths_over, paths_within, paths}

-- the sources of each node before node k are listed later than it
abbrev pub AreLaterBelow : List NodeSpec → ℕ → Type 0
AreLaterBelow nodes k = (j : ℕ) → j < k → list_all (λ (l : Link). is_later (length nodes) j l.from) (node_at nodes j).sources ≡ true

-- counts of paths up to node k, from node i to node k, that stop at 2
abbrev pub CountsPaths : List NodeSpec → ℕ → List ℕ → ℕ → Type 0
CountsPaths nodes k counts i = (j : ℕ) → i ≤ j → j ≤ k → slice_index counts j ≡ min 2 (paths nodes k j)

-- ---- two counts that agree on the nodes after j, up to node k, agree on sources that are listed after j
both : (a b : Bool) → (a && b) ≡ true → (a ≡ true) × (b ≡ true)
both true true e = (refl, refl)
both true false e = cc
both false b e = cc

through_alike : (f g : ℕ → ℕ) (n k j : ℕ) (from : Option ℕ) → ((m : ℕ) → j < m → m ≤ k → f m ≡ g m) → is_later n j from ≡ true → paths_through f k from ≡ paths_through g k from
through_alike f g n k j None same later = refl
through_alike f g n k j (Some m) same later = by_test (nat_le m k) refl
  where
    by_test : (b : Bool) → nat_le m k ≡ b → cond (nat_le m k) (f m) 0 ≡ cond (nat_le m k) (g m) 0
    by_test true e = ap (λ (x : ℕ). cond (nat_le m k) x 0) (same m (ltb-true j m (both (nat_lt j m) (nat_lt m n) later).0) (leb-true m k e))
    by_test false e = ap (λ b. cond b (f m) 0) e ∙ sym (ap (λ b. cond b (g m) 0) e)

pub over_alike : (f g : ℕ → ℕ) (n k j : ℕ) (links : List Link) → ((m : ℕ) → j < m → m ≤ k → f m ≡ g m) → list_all (λ (l : Link). is_later n j l.from) links ≡ true → paths_over f k links ≡ paths_over g k links
over_alike f g n k j [] same later = refl
over_alike f g n k j (l ∷ ls) same later =
    let parts : (is_later n j l.from ≡ true) × (list_all (λ (l : Link). is_later n j l.from) ls ≡ true) = both (is_later n j l.from) (list_all (λ (l : Link). is_later n j l.from) ls) later in
    ap (λ x. x + paths_over f k ls) (through_alike f g n k j l.from same parts.0) ∙ ap (λ x. paths_through g k l.from + x) (over_alike f g n k j ls same parts.1)

-- ---- more links than lead from node j to node k add no path
within_here : (links k j : ℕ) (nodes : List NodeSpec) → j ≡ k → paths_within links nodes k j ≡ 1
within_here zero k j nodes e = ap (λ b. cond b 1 0) (eq-eqb j k e)
within_here (suc links) k j nodes e = ap (λ b. cond b 1 (paths_over (paths_within links nodes k) k (node_at nodes j).sources)) (eq-eqb j k e)

differ : (a b : ℕ) → a < b → (a == b) ≡ false
differ a b lt = grind arith

within_next : (links k j : ℕ) (nodes : List NodeSpec) → j < k → paths_within (suc links) nodes k j ≡ paths_over (paths_within links nodes k) k (node_at nodes j).sources
within_next links k j nodes lt = ap (λ b. cond b 1 (paths_over (paths_within links nodes k) k (node_at nodes j).sources)) (differ j k lt)

within_same : (a b : ℕ) (nodes : List NodeSpec) (k j : ℕ) → AreLaterBelow nodes k → k ≤ j + a → k ≤ j + b → j ≤ k → paths_within a nodes k j ≡ paths_within b nodes k j
within_same zero b nodes k j later long_a long_b le = within_here zero k j nodes (omega arith) ∙ sym (within_here b k j nodes (omega arith))
within_same (suc a) zero nodes k j later long_a long_b le = within_here (suc a) k j nodes (omega arith) ∙ sym (within_here zero k j nodes (omega arith))
within_same (suc a) (suc b) nodes k j later long_a long_b le = by_place (cases_lt j k) (λ m less most. within_same a b nodes k m later (omega arith) (omega arith) most)
  where
    by_place : (j < k) ⊎ (k ≤ j) → ((m : ℕ) → j < m → m ≤ k → paths_within a nodes k m ≡ paths_within b nodes k m) → paths_within (suc a) nodes k j ≡ paths_within (suc b) nodes k j
    by_place (inl less) same = within_next a k j nodes less ∙ over_alike (paths_within a nodes k) (paths_within b nodes k) (length nodes) k j (node_at nodes j).sources same (later j less) ∙ sym (within_next b k j nodes less)
    by_place (inr most) same = within_here (suc a) k j nodes (omega arith) ∙ sym (within_here (suc b) k j nodes (omega arith))

-- one path leads from a node to itself
pub paths_here : (nodes : List NodeSpec) (k : ℕ) → paths nodes k k ≡ 1
paths_here nodes k = within_here k k k nodes refl

-- those from an earlier node lead over its sources
pub paths_next : (nodes : List NodeSpec) (k j : ℕ) → AreLaterBelow nodes k → j < k → paths nodes k j ≡ paths_over (paths nodes k) k (node_at nodes j).sources
paths_next nodes k j later lt =
    within_same k (suc k) nodes k j later (omega arith) (omega arith) (omega arith) ∙ within_next k k j nodes lt
