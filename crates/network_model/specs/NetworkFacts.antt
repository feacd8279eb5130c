-- What holds of each node and pause where no rule over several of them is broken.
use Rattle.std.proofs.Common.{◌≡◌, ◌⊎◌, ℕ, zero, suc, ◌<◌, ◌≤◌, ℤ, pos, negsuc, ◌+ℤ◌, ◌≤ℤ◌, List, [], ◌∷◌, All, length, Bool, true, false, ◌&&◌, nat_le, Option, Some, None, option_map, inl, inr, refl, subst, arith}
use Rattle.std.specs.List.{list_all}
use Rattle.std.proofs.lemmas.Bool.{cases_lt, leb-true}
use Rattle.std.proofs.lemmas.Int.{ints}
use Rattle.network_model.specs.declared.network.Network.{Network}
use Rattle.network_model.specs.declared.network.NodeSpec.{NodeSpec}
use Rattle.network_model.specs.declared.network.Link.{Link}
use Rattle.network_model.specs.declared.network.Span.{Span}
use Rattle.network_model.specs.declared.network.Rule.{Rule}
use Rattle.network_model.specs.declared.network.Rule.TheVariants.{Base, MinMax, Lot, Echelon, House}
use Rattle.network_model.specs.declared.network.Demand.{Demand}
use Rattle.network_model.specs.declared.network.Demand.TheVariants.{Nobody, Trace, Drawn}
use Rattle.network_model.specs.Limits.{most_load}
use Rattle.network_model.specs.Nodes.{IsReadableNode, IsReadableRule, IsReadableDemand, node_at, no_node, or_place, first_failing, peak_of, greatest, top_of}
use Rattle.model_terms.specs.Positions.{above_zero}
use Rattle.network_model.specs.Shape.{is_new_name, is_later, are_distinct, has_single_paths, is_shaped_at, misshapen_node}
use Rattle.network_model.specs.Paths.{AreLaterBelow}
use Rattle.network_model.specs.Pauses.{is_apart_at, overlapping_span}
use Rattle.network_model.specs.Load.{load, overloaded_node}
use Rattle.network_model.specs.Network.{IsReadableNetwork}

-- no place fails where none did and the last one passes
or_place-none : (rest : Option ℕ) (b : Bool) (n : ℕ) → or_place rest b n ≡ None → (rest ≡ None) × (b ≡ true)
or_place-none (Some k) b n e = cc
or_place-none None true n e = (refl, refl)
or_place-none None false n e = cc

map_suc-none : (o : Option ℕ) → option_map suc o ≡ None → o ≡ None
map_suc-none None e = refl
map_suc-none (Some k) e = cc

by_place : (passes : ℕ → Bool) (n k : ℕ) → (k < n → passes k ≡ true) → passes n ≡ true → (k < n) ⊎ (n ≤ k) → k < suc n → passes k ≡ true
by_place passes n k earlier last (inl less) lt = earlier less
by_place passes n k earlier last (inr same) lt = let e : n ≡ k = omega arith in subst (λ (i : ℕ). passes i ≡ true) e last

-- each place passes where none fails
pub first_failing-none : (passes : ℕ → Bool) (n k : ℕ) → first_failing passes n ≡ None → k < n → passes k ≡ true
first_failing-none passes zero k none lt = absurd (omega arith)
first_failing-none passes (suc n) k none lt =
    let both : (first_failing passes n ≡ None) × (passes n ≡ true) = or_place-none (first_failing passes n) (passes n) n none in
    by_place passes n k (first_failing-none passes n k both.0) both.1 (cases_lt k n) lt

-- each node has its shape
pub shaped_at : (net : Network) → misshapen_node net ≡ None → (k : ℕ) → k < length net.nodes → is_shaped_at net.nodes k ≡ true
unfolding misshapen_node
shaped_at net shaped k lt = first_failing-none (is_shaped_at net.nodes) (length net.nodes) k (map_suc-none (first_failing (is_shaped_at net.nodes) (length net.nodes)) shaped) lt

-- .. part by part
pub record IsShapedNode (nodes : List NodeSpec) (k : ℕ) : Type 0 where
  pub new_name : is_new_name nodes k ≡ true
  pub later : list_all (λ (l : Link). is_later (length nodes) k l.from) (node_at nodes k).sources ≡ true
  pub distinct : are_distinct (node_at nodes k).sources ≡ true
  pub single : has_single_paths nodes k ≡ true

all_four : (a b c d : Bool) → (a && b && c && d) ≡ true → (a ≡ true) × (b ≡ true) × (c ≡ true) × (d ≡ true)
all_four true true true true e = (refl, refl, refl, refl)
all_four true true true false e = cc
all_four true true false d e = cc
all_four true false c d e = cc
all_four false b c d e = cc

pub parts_shaped : (nodes : List NodeSpec) (k : ℕ) → is_shaped_at nodes k ≡ true → IsShapedNode nodes k
parts_shaped nodes k shaped =
    let all : (is_new_name nodes k ≡ true) × (list_all (λ (l : Link). is_later (length nodes) k l.from) (node_at nodes k).sources ≡ true) × (are_distinct (node_at nodes k).sources ≡ true) × (has_single_paths nodes k ≡ true) =
    all_four (is_new_name nodes k) (list_all (λ (l : Link). is_later (length nodes) k l.from) (node_at nodes k).sources) (are_distinct (node_at nodes k).sources) (has_single_paths nodes k) shaped in
    record { new_name = all.0; later = all.1; distinct = all.2; single = all.3 }

-- the sources of all nodes before some place are listed later
pub later_before : (nodes : List NodeSpec) (k : ℕ) → first_failing (is_shaped_at nodes) k ≡ None → AreLaterBelow nodes k
later_before nodes k shaped j lt = (parts_shaped nodes j (first_failing-none (is_shaped_at nodes) k j shaped lt)).later

pub later_below : (net : Network) → misshapen_node net ≡ None → (k : ℕ) → k ≤ length net.nodes → AreLaterBelow net.nodes k
later_below net shaped k most j lt = (parts_shaped net.nodes j (shaped_at net shaped j (omega arith))).later

-- each pause stands apart from the earlier ones
pub apart_at : (spans : List Span) → overlapping_span spans ≡ None → (k : ℕ) → k < length spans → is_apart_at spans k ≡ true
unfolding overlapping_span
apart_at spans apart k lt = first_failing-none (is_apart_at spans) (length spans) k (map_suc-none (first_failing (is_apart_at spans) (length spans)) apart) lt

-- no load is too large
pub light_at : (net : Network) → overloaded_node net ≡ None → (k : ℕ) → k < length net.nodes → load net k ≤ most_load
unfolding overloaded_node
light_at net light k lt =
    leb-true (load net k) most_load (first_failing-none (λ i. nat_le (load net i) most_load) (length net.nodes) k (map_suc-none (first_failing (λ i. nat_le (load net i) most_load) (length net.nodes)) light) lt)

-- each node is readable
pub node_readable : (net : Network) → IsReadableNetwork net → (k : ℕ) → k < length net.nodes → IsReadableNode net.periods (node_at net.nodes k)
node_readable net readable k lt = readable.nodes k no_node lt

-- ---- what a rule orders up to, and what is demanded in a period
above_small : (x : ℤ) (most : ℕ) → x ≤ℤ pos most → above_zero x ≤ most
above_small (pos n) most le = omega (arith, ints)
above_small (negsuc n) most le = omega arith

pub peak_small : (rule : Rule) → IsReadableRule rule → peak_of rule ≤ 2000000
peak_small (Base level) is = above_small level 2000000 (omega (arith, ints, is.most))
peak_small (MinMax low high) is = above_small high 2000000 (omega (arith, ints, is.1.most))
peak_small (Lot reorder lot) is = above_small (reorder +ℤ pos lot) 2000000 (omega (arith, ints, is.0.most, is.2))
peak_small (Echelon level) is = above_small level 2000000 (omega (arith, ints, is.most))
peak_small (House index cap) is = omega arith

greatest_small : (ds : List ℕ) (most : ℕ) → All (λ d. d ≤ most) ds → greatest ds ≤ most
greatest_small [] most all = omega arith
greatest_small (d ∷ ds) most all = omega (arith, all 0 d (omega arith), greatest_small ds most (λ k e lt. all (suc k) e (omega arith)))

pub top_small : (periods : ℕ) (demand : Demand) → IsReadableDemand periods demand → top_of demand ≤ 10000
top_small periods Nobody is = omega arith
top_small periods (Trace ds) is = greatest_small ds 10000 is.1
top_small periods (Drawn law) is = omega (arith, is.greatest_in_range)
