-- What a valid network keeps: each source is outside or a later node that is its supplier once, and loads are bounded.
use Rattle.std.proofs.Common.{◌≡◌, ℕ, zero, suc, ◌+◌, ◌*◌, ◌<◌, Bool, true, false, not, ◌&&◌, ◌||◌, ◌==◌, nat_lt, cond, List, [], ◌∷◌, ◌++◌, length, Option, Some, None, refl, sym, ◌∙◌, ap, arith, get_or, length-append}
use Rattle.std.specs.List.{list_all, list_any}
use Rattle.std.proofs.lemmas.Bool.{eqb-true, eq-eqb, ltb-true}
use Rattle.network_model.specs.declared.network.Network.{Network}
use Rattle.network_model.specs.declared.network.NodeSpec.{NodeSpec}
use Rattle.network_model.specs.declared.network.Link.{Link}
use Rattle.network_model.specs.Nodes.{node_at, is_from, top_of}
use Rattle.network_model.specs.Shape.{is_later, is_none_from, are_distinct, misshapen_node}
use Rattle.network_model.specs.Load.{claimed, reaching, orders_most, order_limit}
use Rattle.network_model.specs.Network.{IsValidNetwork}
use Rattle.network_model.specs.NetworkFacts.{shaped_at, IsShapedNode, parts_shaped, light_at}
use Rattle.node_state.specs.Holdings.{total}
use Rattle.node_state.specs.Totals.{before, claims_of, claims_upto, IsSource, IsShaped, IsLoaded}

pub both : (a b : Bool) → (a && b) ≡ true → (a ≡ true) × (b ≡ true)
both true true e = (refl, refl)
both true false e = cc
both false b e = cc

pub differ : (a b : ℕ) → (a ≡ b → ⊥) → (a == b) ≡ false
differ a b n = by (a == b) refl
  where
    by : (x : Bool) → (a == b) ≡ x → (a == b) ≡ false
    by true e = absurd (n (eqb-true a b e))
    by false e = e

-- ---- sources
-- what passes a test in all places
pub at_each : {X : Type 0} (p : X → Bool) (xs : List X) → list_all p xs ≡ true → (s : ℕ) (d : X) → s < length xs → p (get_or xs s d) ≡ true
at_each p [] all s d lt = absurd (omega arith)
at_each p (x ∷ xs) all zero d lt = (both (p x) (list_all p xs) all).0
at_each p (x ∷ xs) all (suc s) d lt = at_each p xs (both (p x) (list_all p xs) all).1 s d (omega arith)

either : (a b : Bool) → not (a || b) ≡ true → (a ≡ false) × (not b ≡ true)
either true b e = cc
either false b e = (refl, e)

-- and what passes it in none
pub at_none : {X : Type 0} (p : X → Bool) (xs : List X) → not (list_any p xs) ≡ true → (s : ℕ) (d : X) → s < length xs → p (get_or xs s d) ≡ false
at_none p [] none s d lt = absurd (omega arith)
at_none p (x ∷ xs) none zero d lt = (either (p x) (list_any p xs) none).0
at_none p (x ∷ xs) none (suc s) d lt = at_none p xs (either (p x) (list_any p xs) none).1 s d (omega arith)

-- node k is no source of these links
abbrev pub IsNoSource : ℕ → List Link → Type 0
IsNoSource k ls = not (list_any (λ (l : Link). is_from k l.from) ls) ≡ true

none_claimed : (f : ℕ → ℕ) (k t : ℕ) (ls : List Link) → IsNoSource k ls → claims_of f k t ls ≡ []
none_claimed f k t [] none = refl
none_claimed f k t (l ∷ ls) none =
    let parts : (is_from k l.from ≡ false) × IsNoSource k ls = either (is_from k l.from) (list_any (λ (m : Link). is_from k m.from) ls) none in
    ap (λ b. cond b (f (before l.order_lead t) ∷ claims_of f k t ls) (claims_of f k t ls)) parts.0 ∙ none_claimed f k t ls parts.1

-- a link is not from node k where a later one is
pub from_other : (k : ℕ) (from : Option ℕ) (ls : List Link) (s : ℕ) (d : Link) → is_none_from from ls ≡ true → s < length ls → (get_or ls s d).from ≡ Some k → is_from k from ≡ false
from_other k None ls s d none lt e = refl
from_other k (Some m) ls s d none lt e = differ m k (λ same. clash same)
  where
    apart : is_from m (get_or ls s d).from ≡ false
    apart = at_none (λ (l : Link). is_from m l.from) ls none s d lt

    clash : m ≡ k → ⊥
    clash same =
        let a : is_from m (get_or ls s d).from ≡ true = ap (is_from m) e ∙ eq-eqb k m (sym same) in
        let b = apart in
        cc

pub one_claimed : (f : ℕ → ℕ) (k t : ℕ) (ls : List Link) → are_distinct ls ≡ true → (s : ℕ) (d : Link) → s < length ls → (get_or ls s d).from ≡ Some k →
    claims_of f k t ls ≡ f (before (get_or ls s d).order_lead t) ∷ []
one_claimed f k t [] distinct s d lt e = absurd (omega arith)
one_claimed f k t (l ∷ ls) distinct zero d lt e =
    let parts : (is_none_from l.from ls ≡ true) × (are_distinct ls ≡ true) = both (is_none_from l.from ls) (are_distinct ls) distinct in
    let none : IsNoSource k ls = sym (ap (λ o. is_none_from o ls) e) ∙ parts.0 in
    ap (λ b. cond b (f (before l.order_lead t) ∷ claims_of f k t ls) (claims_of f k t ls)) (ap (is_from k) e ∙ eq-eqb k k refl)
    ∙ ap (λ cs. f (before l.order_lead t) ∷ cs) (none_claimed f k t ls none)
one_claimed f k t (l ∷ ls) distinct (suc s) d lt e =
    let parts : (is_none_from l.from ls ≡ true) × (are_distinct ls ≡ true) = both (is_none_from l.from ls) (are_distinct ls) distinct in
    ap (λ b. cond b (f (before l.order_lead t) ∷ claims_of f k t ls) (claims_of f k t ls)) (from_other k l.from ls s d parts.0 (omega arith) e)
    ∙ one_claimed f k t ls parts.1 s d (omega arith) e

is_source : (nodes : List NodeSpec) (i : ℕ) → are_distinct (node_at nodes i).sources ≡ true → (s : ℕ) (d : Link) → s < length (node_at nodes i).sources →
    (from : Option ℕ) → (get_or (node_at nodes i).sources s d).from ≡ from → is_later (length nodes) i from ≡ true → IsSource nodes i (get_or (node_at nodes i).sources s d).order_lead from
is_source nodes i distinct s d lt None e later = tt
is_source nodes i distinct s d lt (Some k) e later =
    let parts : (nat_lt i k ≡ true) × (nat_lt k (length nodes) ≡ true) = both (nat_lt i k) (nat_lt k (length nodes)) later in
    (ltb-true i k parts.0, ltb-true k (length nodes) parts.1, λ f t. one_claimed f k t (node_at nodes i).sources distinct s d lt e)

pub shaped_nodes : (net : Network) → misshapen_node net ≡ None → IsShaped net.nodes
shaped_nodes net shaped i lt =
    let shape : IsShapedNode net.nodes i = parts_shaped net.nodes i (shaped_at net shaped i lt) in
    λ s d few. is_source net.nodes i shape.distinct s d few (get_or (node_at net.nodes i).sources s d).from refl
    (at_each (λ (l : Link). is_later (length net.nodes) i l.from) (node_at net.nodes i).sources shape.later s d few)

-- ---- loads
total-append : (xs ys : List ℕ) → total (xs ++ ys) ≡ total xs + total ys
total-append [] ys = omega arith
total-append (x ∷ xs) ys = let a = total-append xs ys in omega arith

claimed_if : (b : Bool) (o : ℕ) (n : ℕ) (cs : List ℕ) → n ≡ total cs → cond b o 0 + n ≡ total (cond b (o ∷ cs) cs)
claimed_if true o n cs e = omega arith
claimed_if false o n cs e = omega arith

claimed_is : (k o : ℕ) (ls : List Link) → claimed k o ls ≡ total (claims_of (λ t. o) k 0 ls)
claimed_is k o [] = refl
claimed_is k o (l ∷ ls) = claimed_if (is_from k l.from) o (claimed k o ls) (claims_of (λ t. o) k 0 ls) (claimed_is k o ls)

reaching_more : (k : ℕ) (os : List ℕ) (o : ℕ) (nodes : List NodeSpec) → reaching k (os ++ o ∷ []) nodes ≡ reaching k os nodes + claimed k o (node_at nodes (length os)).sources
reaching_more k [] o [] = refl
reaching_more k [] o (n ∷ ns) = omega arith
reaching_more k (p ∷ os) o [] = refl
reaching_more k (p ∷ os) o (n ∷ ns) = let a = reaching_more k os o ns in omega arith

length-most : (net : Network) (n : ℕ) → length (orders_most net n) ≡ n
length-most net zero = refl
length-most net (suc n) = let a = length-most net n in omega (arith, length-append (orders_most net n) (order_limit net n ∷ []))

reaching_is : (net : Network) (k m : ℕ) → reaching k (orders_most net m) net.nodes ≡ total (claims_upto net.nodes (λ j t. order_limit net j) k 0 m)
reaching_is net k zero = refl
reaching_is net k (suc m) =
    let more = reaching_more k (orders_most net m) (order_limit net m) net.nodes in
    let here : claimed k (order_limit net m) (node_at net.nodes (length (orders_most net m))).sources ≡ total (claims_of (λ t. order_limit net m) k 0 (node_at net.nodes m).sources) =
    ap (λ j. claimed k (order_limit net m) (node_at net.nodes j).sources) (length-most net m) ∙ claimed_is k (order_limit net m) (node_at net.nodes m).sources in
    omega (arith, more, here, reaching_is net k m, total-append (claims_upto net.nodes (λ j t. order_limit net j) k 0 m) (claims_of (λ t. order_limit net m) k 0 (node_at net.nodes m).sources))

pub loaded : (net : Network) → IsValidNetwork net → IsLoaded net
loaded net valid = record {
  need_is = λ i lt. ap (λ n. net.periods * top_of (node_at net.nodes i).demand + n) (reaching_is net i i);
  limit_is = λ i lt. refl;
  light = λ i lt. light_at net valid.light i lt;
}
