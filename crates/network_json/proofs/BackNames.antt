-- Names of nodes that were written are read back.
use Rattle.std.proofs.Common.{◌≡◌, ◌⊎◌, ℕ, zero, suc, ◌<◌, ◌≤◌, List, [], ◌∷◌, length, map, take, get_or, Bool, true, false, cond, Option, Some, None, Ok, Err, inl, inr, refl, sym, ap, ◌∙◌, arith}
use Rattle.std.specs.Prelude.{◌||◌, IfSome, unwrap_or}
use Rattle.std.specs.List.{list_any}
use Rattle.std.specs.Str.{bytes_eq}
use Rattle.std.proofs.lemmas.Bool.{cases_lt}
use Rattle.std.proofs.lemmas.Slice.Eq.{bytes_eq-Decides}
use Rattle.serde_json.specs.Data.{string}
use Rattle.network_model.specs.declared.network.NodeSpec.{NodeSpec}
use Rattle.network_model.specs.Nodes.{is_node_name, node_at}
use Rattle.json_forms.specs.declared.fault.FieldFault.TheVariants.{OutOfRange}
use Rattle.json_forms.specs.NodeNames.{Name, node_name_in, name_text, name_data}
use Rattle.network_json.specs.Names.{place_below, place_of, place_or_fault, node_in, supplier}
use Rattle.network_json.specs.Network.{name_at}
use Rattle.json_forms.proofs.Texts.{outside_text, not_outside, name_text_is}

neither : (a b : Bool) → (a || b) ≡ false → (a ≡ false) × (b ≡ false)
neither true b e = cc
neither false true e = cc
neither false false e = (refl, refl)

pub node_name_back : (name : Name) → is_node_name name ≡ true → node_name_in (name_data name) ≡ Ok name
node_name_back name is = ap (λ (n : Name). node_name_in (string n)) (name_text_is name is) ∙ ap (λ (b : Bool). cond b (Ok name) (Err OutOfRange)) is

-- ---- places
abbrev pub names_of : List NodeSpec → List Name
names_of nodes = map (λ (n : NodeSpec). n.name) nodes

-- names that differ, each the name of a node
pub record AreNamed (nodes : List NodeSpec) : Type 0 where
  pub named : (k : ℕ) → k < length nodes → is_node_name (node_at nodes k).name ≡ true
  pub differ : (j k : ℕ) → j < k → k < length nodes → bytes_eq (node_at nodes j).name (node_at nodes k).name ≡ false

-- none of the first k passes
pub none_before : (p : NodeSpec → Bool) (ns : List NodeSpec) (k j : ℕ) → list_any p (take k ns) ≡ false → j < k → j < length ns → p (node_at ns j) ≡ false
none_before p [] k j e lt in_list = absurd (omega arith)
none_before p (n ∷ ns) zero j e lt in_list = absurd (omega arith)
none_before p (n ∷ ns) (suc k) zero e lt in_list = (neither (p n) (list_any p (take k ns)) e).0
none_before p (n ∷ ns) (suc k) (suc j) e lt in_list = none_before p ns k j (neither (p n) (list_any p (take k ns)) e).1 (omega arith) (omega arith)

name_of_place : (nodes : List NodeSpec) (k : ℕ) → get_or (names_of nodes) k [] ≡ (node_at nodes k).name
name_of_place [] k = refl
name_of_place (n ∷ ns) zero = refl
name_of_place (n ∷ ns) (suc k) = name_of_place ns k

place_step : (nodes : List NodeSpec) (k n : ℕ) → AreNamed nodes → (k < n → place_below (names_of nodes) (node_at nodes k).name n ≡ Some k) → suc n ≤ length nodes → (k < n) ⊎ (n ≤ k) → k < suc n
    → place_below (names_of nodes) (node_at nodes k).name (suc n) ≡ Some k
place_step nodes k n are earlier most (inl less) lt =
    let other : bytes_eq (node_at nodes k).name (get_or (names_of nodes) n []) ≡ false = ap (bytes_eq (node_at nodes k).name) (name_of_place nodes n) ∙ are.differ k n less (omega arith) in
    ap (λ (b : Bool). cond b (Some n) (place_below (names_of nodes) (node_at nodes k).name n)) other ∙ earlier less
place_step nodes k n are earlier most (inr same) lt =
    let here : k ≡ n = omega arith in
    let name = (node_at nodes k).name in
    let found : bytes_eq name (get_or (names_of nodes) n []) ≡ true =
    ap (λ (i : ℕ). bytes_eq name (get_or (names_of nodes) i [])) (sym here) ∙ ap (bytes_eq name) (name_of_place nodes k) ∙ (bytes_eq-Decides name name).1 refl in
    ap (λ (b : Bool). cond b (Some n) (place_below (names_of nodes) name n)) found ∙ ap Some (sym here)

place_back : (nodes : List NodeSpec) (k n : ℕ) → AreNamed nodes → k < n → n ≤ length nodes → place_below (names_of nodes) (node_at nodes k).name n ≡ Some k
place_back nodes k zero are lt most = absurd (omega arith)
place_back nodes k (suc n) are lt most = place_step nodes k n are (λ less. place_back nodes k n are less (omega arith)) most (cases_lt k n) lt

count_names : (nodes : List NodeSpec) → length (names_of nodes) ≡ length nodes
count_names [] = refl
count_names (n ∷ ns) = ap suc (count_names ns)

pub place_of_back : (nodes : List NodeSpec) (k : ℕ) → AreNamed nodes → k < length nodes → place_of (names_of nodes) (node_at nodes k).name ≡ Some k
place_of_back nodes k are lt = ap (place_below (names_of nodes) (node_at nodes k).name) (count_names nodes) ∙ place_back nodes k (length nodes) are lt (omega arith)

pub node_back : (nodes : List NodeSpec) (k : ℕ) → AreNamed nodes → k < length nodes → node_in (names_of nodes) (name_data (node_at nodes k).name) ≡ Ok k
node_back nodes k are lt = ap (λ (n : Name). place_or_fault (place_of (names_of nodes) n)) (name_text_is (node_at nodes k).name (are.named k lt)) ∙ ap place_or_fault (place_of_back nodes k are lt)

-- ---- suppliers
abbrev pub IsPlaceOf : List NodeSpec → Option ℕ → Type 0
IsPlaceOf nodes from = IfSome from (λ k. k < length nodes)

name_at_is : (nodes : List NodeSpec) (from : Option ℕ) → AreNamed nodes → IsPlaceOf nodes from → name_text (name_at nodes from) ≡ name_at nodes from
name_at_is nodes None are is = outside_text
name_at_is nodes (Some k) are is = name_text_is (node_at nodes k).name (are.named k is)

supplier_is : (nodes : List NodeSpec) (from : Option ℕ) → AreNamed nodes → IsPlaceOf nodes from → supplier (names_of nodes) (name_at nodes from) ≡ from
supplier_is nodes None are is = refl
supplier_is nodes (Some k) are is =
    let names = names_of nodes in
    ap (λ (b : Bool). cond b None (Some (unwrap_or (place_of names (node_at nodes k).name) (length names)))) (not_outside (node_at nodes k).name (are.named k is))
    ∙ ap (λ (o : Option ℕ). Some (unwrap_or o (length names))) (place_of_back nodes k are is)

pub supplier_back : (nodes : List NodeSpec) (from : Option ℕ) → AreNamed nodes → IsPlaceOf nodes from → supplier (names_of nodes) (name_text (name_at nodes from)) ≡ from
supplier_back nodes from are is = ap (supplier (names_of nodes)) (name_at_is nodes from are is) ∙ supplier_is nodes from are is
