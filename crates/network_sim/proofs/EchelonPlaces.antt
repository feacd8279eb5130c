-- The places of an echelon, found one after another.
use Rattle.std.proofs.Common.{◌≡◌, ℕ, zero, suc, ◌+◌, ◌*◌, ◌<◌, ◌≤◌, Bool, true, false, cond, nat_lt, List, [], ◌∷◌, ◌++◌, length, slice_index, None, All, refl, sym, ◌∙◌, ap, subst, arith, get_or, add-one}
use Rattle.std.proofs.lemmas.Bool.{lt-ltb}
use Rattle.std.proofs.lemmas.List.{append-nil}
use Rattle.std.proofs.lemmas.List.Elements.{All-append, All-cons, All-nil}
use Rattle.network_model.specs.declared.network.Network.{Network}
use Rattle.network_model.specs.declared.network.NodeSpec.{NodeSpec}
use Rattle.network_model.specs.Nodes.{node_at, no_node}
use Rattle.network_model.specs.Shape.{is_below, paths, misshapen_node}
use Rattle.network_model.specs.Paths.{CountsPaths, AreLaterBelow}
use Rattle.network_model.specs.Load.{echelon_sum}
use Rattle.network_model.specs.Network.{IsReadableNetwork}
use Rattle.network_model.specs.NetworkFacts.{later_below}
use Rattle.network_sim.specs.Machine.{sum_at, IsEchelonOf}

-- the places of node k and of the nodes below it, among the first j
abbrev pub places_upto : List NodeSpec → ℕ → ℕ → List ℕ
places_upto nodes k zero = []
places_upto nodes k (suc j) = places_upto nodes k j ++ cond (is_below nodes k j) (j ∷ []) []

-- what has been found among the first j nodes
pub record IsFound (net : Network) (k j initial : ℕ) (places : List ℕ) : Type 0 where
  pub within : j ≤ k + 1
  pub stock : initial ≡ echelon_sum net.nodes k (λ i. (node_at net.nodes i).initial) j
  pub few : initial ≤ j * 1000000
  pub places_are : places ≡ places_upto net.nodes k j

sum-append : (ks js xs : List ℕ) → sum_at (ks ++ js) xs ≡ sum_at ks xs + sum_at js xs
sum-append [] js xs = omega arith
sum-append (k ∷ ks) js xs = let a = sum-append ks js xs in omega arith

sum_if : (b : Bool) (j : ℕ) (xs : List ℕ) → sum_at (cond b (j ∷ []) []) xs ≡ cond b (get_or xs j 0) 0
sum_if true j xs = omega arith
sum_if false j xs = refl

sum_places : (nodes : List NodeSpec) (k j : ℕ) (xs : List ℕ) → sum_at (places_upto nodes k j) xs ≡ echelon_sum nodes k (λ i. get_or xs i 0) j
sum_places nodes k zero xs = refl
sum_places nodes k (suc j) xs =
    sum-append (places_upto nodes k j) (cond (is_below nodes k j) (j ∷ []) []) xs ∙ (λ i. sum_places nodes k j xs i + sum_if (is_below nodes k j) j xs i)

known_if : (n j : ℕ) (b : Bool) → j < n → All (λ k. k < n) (cond b (j ∷ []) [])
known_if n j true lt = All-cons (λ k. k < n) j [] lt (All-nil (λ k. k < n))
known_if n j false lt = All-nil (λ k. k < n)

known : (nodes : List NodeSpec) (n k j : ℕ) → j ≤ n → All (λ i. i < n) (places_upto nodes k j)
known nodes n k zero le = All-nil (λ i. i < n)
known nodes n k (suc j) le =
    All-append (λ i. i < n) (places_upto nodes k j) (cond (is_below nodes k j) (j ∷ []) []) (known nodes n k j (omega arith)) (known_if n j (is_below nodes k j) (omega arith))

-- whether a count of paths tells a node below
some_path : (nodes : List NodeSpec) (k j : ℕ) (counts : List ℕ) → CountsPaths nodes k counts 0 → j < k + 1 → 0 < slice_index counts j → is_below nodes k j ≡ true
some_path nodes k j counts exact lt some = let a = exact j (omega arith) (omega arith) in lt-ltb 0 (paths nodes k j) (omega arith)

no_path : (nodes : List NodeSpec) (k j : ℕ) (counts : List ℕ) → CountsPaths nodes k counts 0 → j < k + 1 → slice_index counts j ≡ 0 → is_below nodes k j ≡ false
no_path nodes k j counts exact lt none =
    let a = exact j (omega arith) (omega arith) in
    let b : paths nodes k j ≡ 0 = omega arith in
    ap (λ n. nat_lt 0 n) b

pub none_found : (net : Network) (k : ℕ) (places : List ℕ) → places ≡ [] → IsFound net k 0 0 places
none_found net k places e = record { within = omega arith; stock = refl; few = omega arith; places_are = e }

initial_small : (net : Network) → IsReadableNetwork net → (j : ℕ) → j < length net.nodes → (node_at net.nodes j).initial ≤ 1000000
initial_small net readable j lt = (readable.nodes j no_node lt).initial

pub one_found : (net : Network) (k j initial : ℕ) (places more counts : List ℕ) → IsReadableNetwork net → k < length net.nodes → CountsPaths net.nodes k counts 0 → j < k + 1 → 0 < slice_index counts j →
    IsFound net k j initial places → more ≡ places ++ j ∷ [] → IsFound net k (j + 1) (initial + (node_at net.nodes j).initial) more
one_found net k j initial places more counts readable lt exact below some found e = subst (λ n. IsFound net k n (initial + (node_at net.nodes j).initial) more) (sym (add-one j)) (record {
  within = omega arith;
  stock = (λ i. found.stock i + (node_at net.nodes j).initial) ∙ sym (ap (λ b. echelon_sum net.nodes k (λ i. (node_at net.nodes i).initial) j + cond b (node_at net.nodes j).initial 0) here);
  few = let a = found.few in let b = initial_small net readable j (omega arith) in omega arith;
  places_are = e ∙ ap (λ ps. ps ++ j ∷ []) found.places_are ∙ sym (ap (λ b. places_upto net.nodes k j ++ cond b (j ∷ []) []) here);
})
  where
    here : is_below net.nodes k j ≡ true
    here = some_path net.nodes k j counts exact below some

pub none_more : (net : Network) (k j initial : ℕ) (places counts : List ℕ) → CountsPaths net.nodes k counts 0 → j < k + 1 → slice_index counts j ≡ 0 →
    IsFound net k j initial places → IsFound net k (j + 1) initial places
none_more net k j initial places counts exact below none found = subst (λ n. IsFound net k n initial places) (sym (add-one j)) (record {
  within = omega arith;
  stock = found.stock ∙ more ∙ sym (ap (λ b. echelon_sum net.nodes k (λ i. (node_at net.nodes i).initial) j + cond b (node_at net.nodes j).initial 0) here);
  few = let a = found.few in omega arith;
  places_are = found.places_are ∙ sym (append-nil (places_upto net.nodes k j)) ∙ sym (ap (λ b. places_upto net.nodes k j ++ cond b (j ∷ []) []) here);
})
  where
    here : is_below net.nodes k j ≡ false
    here = no_path net.nodes k j counts exact below none

    more : echelon_sum net.nodes k (λ i. (node_at net.nodes i).initial) j ≡ echelon_sum net.nodes k (λ i. (node_at net.nodes i).initial) j + 0
    more = omega arith

at_any : (nodes : List NodeSpec) (i : ℕ) (d e : NodeSpec) → i < length nodes → get_or nodes i d ≡ get_or nodes i e
at_any [] i d e lt = absurd (omega arith)
at_any (n ∷ ns) zero d e lt = refl
at_any (n ∷ ns) (suc i) d e lt = at_any ns i d e (omega arith)

-- a step of the loop: nodes are read from a slice
pub found_next : (net : Network) (nodes : List NodeSpec) (d : NodeSpec) (k j stock now : ℕ) (places more counts : List ℕ) → IsReadableNetwork net → k < length net.nodes → nodes ≡ net.nodes → CountsPaths nodes k counts 0 → j < k + 1 →
    0 < slice_index counts j → IsFound net k j stock places → now ≡ stock + (get_or nodes j d).initial → more ≡ places ++ j ∷ [] → IsFound net k (j + 1) now more
found_next net nodes d k j stock now places more counts readable lt e exact below some found f g =
    subst (λ n. IsFound net k (j + 1) n more) (sym (f ∙ ap (λ (m : NodeSpec). stock + m.initial) (ap (λ ns. get_or ns j d) e ∙ at_any net.nodes j d no_node (omega arith))))
    (one_found net k j stock places more counts readable lt (subst (λ ns. CountsPaths ns k counts 0) e exact) below some found g)

pub found_stays : (net : Network) (nodes : List NodeSpec) (k j stock now : ℕ) (places more counts : List ℕ) → nodes ≡ net.nodes → CountsPaths nodes k counts 0 → j < k + 1 →
    slice_index counts j ≡ 0 → IsFound net k j stock places → now ≡ stock → more ≡ places → IsFound net k (j + 1) now more
found_stays net nodes k j stock now places more counts e exact below none found f g =
    subst (λ n. IsFound net k (j + 1) n more) (sym f) (subst (IsFound net k (j + 1) stock) (sym g)
    (none_more net k j stock places counts (subst (λ ns. CountsPaths ns k counts 0) e exact) below none found))

pub later_read : (net : Network) (nodes : List NodeSpec) (k : ℕ) → misshapen_node net ≡ None → k < length net.nodes → nodes ≡ net.nodes → AreLaterBelow nodes k
later_read net nodes k shaped lt e = subst (λ ns. AreLaterBelow ns k) (sym e) (later_below net shaped k (omega arith))

pub all_found : (net : Network) (k j initial : ℕ) (places : List ℕ) → k < length net.nodes → j ≡ k + 1 → IsFound net k j initial places → IsEchelonOf net.nodes k initial places
all_found net k j initial places lt e found = record {
  stock = found.stock ∙ ap (echelon_sum net.nodes k (λ i. (node_at net.nodes i).initial)) end;
  places = λ xs. ap (λ ps. sum_at ps xs) found.places_are ∙ sum_places net.nodes k j xs ∙ ap (echelon_sum net.nodes k (λ i. get_or xs i 0)) end;
  known = subst (All (λ i. i < length net.nodes)) (sym found.places_are) (known net.nodes (length net.nodes) k j (omega arith));
}
  where
    end : j ≡ suc k
    end = e ∙ add-one k
