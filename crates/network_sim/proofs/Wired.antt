-- The callers and suppliers that are found are those of the network.
use Rattle.std.proofs.Common.{◌≡◌, ◌⊎◌, inl, inr, ℕ, zero, suc, ◌+◌, ◌<◌, ◌≤◌, ◌==◌, nat_lt, Bool, true, false, cond, List, [], ◌∷◌, ◌++◌, length, take, map, Option, Some, None, All, refl, sym, ◌∙◌, ap, subst, arith, get_or, add-zero, add-one, length-append, ◌-◌}
use Rattle.std.specs.List.{list_all}
use Rattle.std.proofs.lemmas.Bool.{cases_lt, eqb-true, eqb-false, ltb-true}
use Rattle.std.proofs.lemmas.List.{map-append, length-map, append-nil, append_assoc, length-set, get_or-set_same, get_or-set_other}
use Rattle.std.proofs.lemmas.List.Elements.{All-append, All-cons, All-nil, All-tail, All-head}
use Rattle.network_model.specs.declared.network.Network.{Network}
use Rattle.network_model.specs.declared.network.NodeSpec.{NodeSpec}
use Rattle.network_model.specs.declared.network.Link.{Link}
use Rattle.network_model.specs.Nodes.{node_at, no_node, no_link, is_from}
use Rattle.network_model.specs.Shape.{is_later, is_none_from, are_distinct, misshapen_node}
use Rattle.network_model.specs.NetworkFacts.{shaped_at, IsShapedNode, parts_shaped}
use Rattle.node_state.specs.Sound.{whole}
use Rattle.node_state.specs.Totals.{before, claims_of, claims_upto, slot}
use Rattle.network_sim.specs.declared.links.Caller.{Caller}
use Rattle.network_sim.specs.declared.links.Supplier.{Supplier}
use Rattle.network_sim.specs.Machine.{AreCallersOf}
use Rattle.network_sim.specs.Supply.{AreSuppliersOf, IsSlot}
use Rattle.network_sim.specs.Wiring.{IsWiring, IsAmong, callers_in, callers_upto, slot_among, supplier_of, suppliers_of, callers_of, with_caller, with_callers, suppliers_among, no_callers}
use Rattle.network_sim.specs.ValidNetworks.{both, differ, at_each, from_other}
use Rattle.network_sim.proofs.Lists.{map_at}
use Rattle.network_sim.specs.TableRun.{map_same}

-- ---- the callers of a node are those that its claims count
-- the total of a caller's orders that has reached the node
abbrev claim_by : List NodeSpec → (ℕ → ℕ → ℕ) → ℕ → Caller → ℕ
claim_by nodes O t c = O c.node (before (get_or (node_at nodes c.node).sources c.source no_link).order_lead t)

module _ (nodes : List NodeSpec) where
  map_cond : (f : Caller → ℕ) (b : Bool) (x : ℕ) (c : Caller) (xs : List ℕ) (cs : List Caller) → x ≡ f c → xs ≡ map f cs → cond b (x ∷ xs) xs ≡ map f (cond b (c ∷ cs) cs)
  map_cond f true x c xs cs e g = λ j. e j ∷ g j
  map_cond f false x c xs cs e g = g

  -- over the links from number s on of node j
  claims_in : (O : ℕ → ℕ → ℕ) (i t j s : ℕ) (ls : List Link) → ((k : ℕ) → k < length ls → get_or ls k no_link ≡ get_or (node_at nodes j).sources (s + k) no_link) →
      claims_of (O j) i t ls ≡ map (claim_by nodes O t) (callers_in i j s ls)
  claims_in O i t j s [] same = refl
  claims_in O i t j s (l ∷ ls) same =
      map_cond (claim_by nodes O t) (is_from i l.from) (O j (before l.order_lead t)) (record { node = j; source = s }) (claims_of (O j) i t ls) (callers_in i j (suc s) ls)
      (ap (λ (m : Link). O j (before m.order_lead t)) (same 0 (omega arith) ∙ ap (λ k. get_or (node_at nodes j).sources k no_link) (add-zero s)))
      (claims_in O i t j (suc s) ls (λ k lt. let e : s + suc k ≡ suc s + k = omega arith in same (suc k) (omega arith) ∙ ap (λ n. get_or (node_at nodes j).sources n no_link) e))

  claims_are : (O : ℕ → ℕ → ℕ) (i t j : ℕ) → claims_upto nodes O i t j ≡ map (claim_by nodes O t) (callers_upto nodes i j)
  claims_are O i t zero = refl
  claims_are O i t (suc j) =
      (λ x. claims_are O i t j x ++ claims_in O i t j 0 (node_at nodes j).sources (λ k lt. let e : k ≡ 0 + k = omega arith in ap (λ n. get_or (node_at nodes j).sources n no_link) e) x)
      ∙ sym (map-append (claim_by nodes O t) (callers_upto nodes i j) (callers_in i j 0 (node_at nodes j).sources))

  abbrev IsKnown : ℕ → Caller → Type 0
  IsKnown i c = (c.node < i) × (c.source < length (node_at nodes c.node).sources)

  known_or : (m j s : ℕ) (b : Bool) (cs : List Caller) → j < m → s < length (node_at nodes j).sources → All (IsKnown m) cs → All (IsKnown m) (cond b (record { node = j; source = s } ∷ cs) cs)
  known_or m j s true cs lt few p = All-cons (IsKnown m) (record { node = j; source = s }) cs (lt, few) p
  known_or m j s false cs lt few p = p

  known_in : (m i j s : ℕ) (ls : List Link) → j < m → s + length ls ≡ length (node_at nodes j).sources → All (IsKnown m) (callers_in i j s ls)
  known_in m i j s [] lt len = All-nil (IsKnown m)
  known_in m i j s (l ∷ ls) lt len =
      known_or m j s (is_from i l.from) (callers_in i j (suc s) ls) lt (omega arith) (known_in m i j (suc s) ls lt (omega arith))

  known_upto : (m i j : ℕ) → j ≤ m → All (IsKnown m) (callers_upto nodes i j)
  known_upto m i zero le = All-nil (IsKnown m)
  known_upto m i (suc j) le =
      All-append (IsKnown m) (callers_upto nodes i j) (callers_in i j 0 (node_at nodes j).sources) (known_upto m i j (omega arith)) (known_in m i j 0 (node_at nodes j).sources (omega arith) (omega arith))

  pub are_callers : (i : ℕ) (callers : List Caller) → callers ≡ callers_upto nodes i i → AreCallersOf nodes i callers
  are_callers i callers e = subst (AreCallersOf nodes i) (sym e) (record {
    known = known_upto i i i (omega arith);
    claims = λ O t. claims_are O i t i;
  })

  -- ---- the slots of suppliers
  slot_is : (i k : ℕ) → length (callers_upto nodes k i) ≡ slot nodes k i
  slot_is i k = sym (ap length (claims_are (λ j t. 0) k 0 i) ∙ length-map (callers_upto nodes k i) (claim_by nodes (λ j t. 0) 0))

  pub are_suppliers : (i : ℕ) (suppliers : List Supplier) → suppliers ≡ suppliers_of nodes i → AreSuppliersOf nodes i suppliers
  are_suppliers i suppliers e = subst (AreSuppliersOf nodes i) (sym e) (record {
    one_each = each;
    same = λ s d lt. ap (λ (p : Supplier). p.from) (at s d lt);
    slots = λ s d lt. subst (λ (p : Supplier). IsSlot nodes i p.slot p.from) (sym (at s d lt)) (in_slot (get_or (node_at nodes i).sources s no_link).from);
  })
    where
      each : length (suppliers_of nodes i) ≡ length (node_at nodes i).sources
      each = length-map (node_at nodes i).sources (supplier_of (λ k. callers_upto nodes k i))

      at : (s : ℕ) (d : Supplier) → s < length (suppliers_of nodes i) → get_or (suppliers_of nodes i) s d ≡ supplier_of (λ k. callers_upto nodes k i) (get_or (node_at nodes i).sources s no_link)
      at s d lt = map_at (supplier_of (λ k. callers_upto nodes k i)) (node_at nodes i).sources s no_link d (let a = each in omega arith)

      in_slot : (from : Option ℕ) → IsSlot nodes i (slot_among (λ k. callers_upto nodes k i) from) from
      in_slot None = tt
      in_slot (Some k) = slot_is i k

-- ---- entering a node
entered_if : (b : Bool) (c : Caller) (xs cs : List Caller) → xs ++ cond b (c ∷ []) [] ++ cs ≡ xs ++ cond b (c ∷ cs) cs
entered_if true c xs cs = append_assoc xs (c ∷ []) cs
entered_if false c xs cs = ap (λ ys. ys ++ cs) (append-nil xs)

pub length-entered : (c : Caller) (from : Option ℕ) (lists : List (List Caller)) → length (with_caller c from lists) ≡ length lists
length-entered c None lists = refl
length-entered c (Some k) lists = length-set lists k (callers_of lists k ++ c ∷ [])

-- the list of node k, before and after
one_entered : (c : Caller) (from : Option ℕ) (lists : List (List Caller)) (k : ℕ) → IsAmong (length lists) from → callers_of (with_caller c from lists) k ≡ callers_of lists k ++ cond (is_from k from) (c ∷ []) []
one_entered c None lists k among = sym (append-nil (callers_of lists k))
one_entered c (Some m) lists k among = by (m == k) refl
  where
    by : (b : Bool) → (m == k) ≡ b → callers_of (with_caller c (Some m) lists) k ≡ callers_of lists k ++ cond b (c ∷ []) []
    by true e =
        let same : k ≡ m = sym (eqb-true m k e) in
        subst (λ i. callers_of (with_caller c (Some m) lists) i ≡ callers_of lists i ++ c ∷ []) (sym same) (get_or-set_same lists m (callers_of lists m ++ c ∷ []) [] among)
    by false e = get_or-set_other lists m k (callers_of lists m ++ c ∷ []) [] (λ s. eqb-false m k e (sym s)) ∙ sym (append-nil (callers_of lists k))

-- the list of a node that isn't the supplier stays
other_kept : (c : Caller) (from : Option ℕ) (lists : List (List Caller)) (k : ℕ) → is_from k from ≡ false → callers_of (with_caller c from lists) k ≡ callers_of lists k
other_kept c None lists k e = refl
other_kept c (Some m) lists k e = get_or-set_other lists m k (callers_of lists m ++ c ∷ []) [] (λ s. eqb-false m k e (sym s))

pub length-all_entered : (j s : ℕ) (ls : List Link) (lists : List (List Caller)) → length (with_callers j s ls lists) ≡ length lists
length-all_entered j s [] lists = refl
length-all_entered j s (l ∷ ls) lists = length-all_entered j (suc s) ls (with_caller (record { node = j; source = s }) l.from lists) ∙ length-entered (record { node = j; source = s }) l.from lists

pub all_entered : (j s : ℕ) (ls : List Link) (lists : List (List Caller)) (k : ℕ) → All (λ (l : Link). IsAmong (length lists) l.from) ls →
    callers_of (with_callers j s ls lists) k ≡ callers_of lists k ++ callers_in k j s ls
all_entered j s [] lists k among = sym (append-nil (callers_of lists k))
all_entered j s (l ∷ ls) lists k among =
    all_entered j (suc s) ls now k (subst (λ n. All (λ (m : Link). IsAmong n m.from) ls) (sym (length-entered c l.from lists)) (All-tail (λ (m : Link). IsAmong (length lists) m.from) l ls among))
    ∙ ap (λ cs. cs ++ callers_in k j (suc s) ls) (one_entered c l.from lists k (All-head (λ (m : Link). IsAmong (length lists) m.from) l ls among))
    ∙ entered_if (is_from k l.from) c (callers_of lists k) (callers_in k j (suc s) ls)
  where
    c : Caller
    c = record { node = j; source = s }

    now : List (List Caller)
    now = with_caller c l.from lists

-- no link takes the slot of a later one
slot_kept : (c : Caller) (l : Link) (ls : List Link) (lists : List (List Caller)) → is_none_from l.from ls ≡ true →
    All (λ (m : Link). supplier_of (callers_of (with_caller c l.from lists)) m ≡ supplier_of (callers_of lists) m) ls
slot_kept c l ls lists none s d lt = λ j. record { from = (get_or ls s d).from; slot = same (get_or ls s d).from refl j }
  where
    same : (from : Option ℕ) → (get_or ls s d).from ≡ from → slot_among (callers_of (with_caller c l.from lists)) from ≡ slot_among (callers_of lists) from
    same None e = refl
    same (Some k) e = ap length (other_kept c l.from lists k (from_other k l.from ls s d none lt e))

pub all_suppliers : (j s : ℕ) (ls : List Link) (lists : List (List Caller)) → are_distinct ls ≡ true → suppliers_among j s ls lists ≡ map (supplier_of (callers_of lists)) ls
all_suppliers j s [] lists distinct = refl
all_suppliers j s (l ∷ ls) lists distinct =
    let parts : (is_none_from l.from ls ≡ true) × (are_distinct ls ≡ true) = both (is_none_from l.from ls) (are_distinct ls) distinct in
    ap (λ ps. supplier_of (callers_of lists) l ∷ ps)
    (all_suppliers j (suc s) ls (with_caller (record { node = j; source = s }) l.from lists) parts.1
    ∙ map_same (supplier_of (callers_of (with_caller (record { node = j; source = s }) l.from lists))) (supplier_of (callers_of lists)) ls (slot_kept (record { node = j; source = s }) l ls lists parts.0))

-- ---- the lists of all nodes
pub callers_none : (n k : ℕ) → callers_of (no_callers n) k ≡ []
callers_none zero k = refl
callers_none (suc n) zero = refl
callers_none (suc n) (suc k) = callers_none n k

pub length-no_callers : (n : ℕ) → length (no_callers n) ≡ n
length-no_callers zero = refl
length-no_callers (suc n) = ap suc (length-no_callers n)

pub no_callers-more : (n : ℕ) → no_callers n ++ [] ∷ [] ≡ no_callers (n + 1)
no_callers-more n = more n ∙ ap no_callers (sym (add-one n))
  where
    more : (n : ℕ) → no_callers n ++ [] ∷ [] ≡ no_callers (suc n)
    more zero = refl
    more (suc n) = ap (λ ls. [] ∷ ls) (more n)

-- the suppliers of the first n nodes
abbrev pub suppliers_upto : List NodeSpec → ℕ → List (List Supplier)
suppliers_upto nodes zero = []
suppliers_upto nodes (suc n) = suppliers_upto nodes n ++ suppliers_of nodes n ∷ []

-- the lists once the first n nodes have been entered
pub record AreEntered (nodes : List NodeSpec) (n : ℕ) (callers : List (List Caller)) (suppliers : List (List Supplier)) : Type 0 where
  pub each : length callers ≡ length nodes
  pub callers_are : (k : ℕ) → callers_of callers k ≡ callers_upto nodes k n
  pub suppliers_are : suppliers ≡ suppliers_upto nodes n

pub none_entered : (nodes : List NodeSpec) (n : ℕ) (callers : List (List Caller)) (suppliers : List (List Supplier)) → n ≡ length nodes → callers ≡ no_callers n → suppliers ≡ [] → AreEntered nodes 0 callers suppliers
none_entered nodes n callers suppliers e f g = record {
  each = ap length f ∙ length-no_callers n ∙ e;
  callers_are = λ k. ap (λ lists. callers_of lists k) f ∙ callers_none n k;
  suppliers_are = g;
}

-- the sources of a node are among all nodes
among : (n i : ℕ) (from : Option ℕ) → is_later n i from ≡ true → IsAmong n from
among n i None later = tt
among n i (Some k) later = ltb-true k n (both (nat_lt i k) (nat_lt k n) later).1

pub sources_among : (net : Network) (n i : ℕ) → misshapen_node net ≡ None → n ≡ length net.nodes → i < length net.nodes → All (λ (l : Link). IsAmong n l.from) (node_at net.nodes i).sources
sources_among net n i shaped e lt =
    let shape : IsShapedNode net.nodes i = parts_shaped net.nodes i (shaped_at net shaped i lt) in
    subst (λ m. All (λ (l : Link). IsAmong m l.from) (node_at net.nodes i).sources) (sym e)
    (λ s d few. among (length net.nodes) i (get_or (node_at net.nodes i).sources s d).from (at_each (λ (l : Link). is_later (length net.nodes) i l.from) (node_at net.nodes i).sources shape.later s d few))

pub one_more : (net : Network) (n : ℕ) (callers now : List (List Caller)) (suppliers more : List (List Supplier)) (row : List Supplier) → misshapen_node net ≡ None → n < length net.nodes →
    AreEntered net.nodes n callers suppliers → now ≡ with_callers n 0 (node_at net.nodes n).sources callers → row ≡ suppliers_among n 0 (node_at net.nodes n).sources callers → more ≡ suppliers ++ row ∷ [] →
    AreEntered net.nodes (n + 1) now more
one_more net n callers now suppliers more row shaped lt entered e f g = subst (λ m. AreEntered net.nodes m now more) (sym (add-one n)) (record {
  each = ap length e ∙ length-all_entered n 0 links callers ∙ entered.each;
  callers_are = λ k. ap (λ lists. callers_of lists k) e ∙ all_entered n 0 links callers k (sources_among net (length callers) n shaped entered.each lt) ∙ ap (λ cs. cs ++ callers_in k n 0 links) (entered.callers_are k);
  suppliers_are = g ∙ (λ j. entered.suppliers_are j ++ row_is j ∷ []);
})
  where
    links : List Link
    links = (node_at net.nodes n).sources

    distinct : are_distinct links ≡ true
    distinct = (parts_shaped net.nodes n (shaped_at net shaped n lt)).distinct

    row_is : row ≡ suppliers_of net.nodes n
    row_is = f ∙ all_suppliers n 0 links callers distinct ∙ map_same (supplier_of (callers_of callers)) (supplier_of (λ k. callers_upto net.nodes k n)) links
        (λ s d few. λ j. record { from = (get_or links s d).from; slot = same (get_or links s d).from j })
      where
        same : (from : Option ℕ) → slot_among (callers_of callers) from ≡ slot_among (λ k. callers_upto net.nodes k n) from
        same None = refl
        same (Some k) = ap length (entered.callers_are k)

at_any : (nodes : List NodeSpec) (i : ℕ) (d e : NodeSpec) → i < length nodes → get_or nodes i d ≡ get_or nodes i e
at_any [] i d e lt = absurd (omega arith)
at_any (n ∷ ns) zero d e lt = refl
at_any (n ∷ ns) (suc i) d e lt = at_any ns i d e (omega arith)

-- the sources of a node that was read
pub sources_read : (nodes all : List NodeSpec) (i : ℕ) (d : NodeSpec) (sources : List Link) → sources ≡ (get_or nodes i d).sources → nodes ≡ all → i < length all → sources ≡ (node_at all i).sources
sources_read nodes all i d sources e f lt = e ∙ ap (λ (m : NodeSpec). m.sources) (ap (λ ns. get_or ns i d) f ∙ at_any all i d no_node lt)

-- the lists written through a borrowed slice
pub may_enter : (net : Network) (n : ℕ) (callers held : List (List Caller)) (suppliers : List (List Supplier)) (sources : List Link) → misshapen_node net ≡ None → n < length net.nodes →
    AreEntered net.nodes n callers suppliers → held ≡ callers → sources ≡ (node_at net.nodes n).sources → All (λ (l : Link). IsAmong (length held) l.from) sources
may_enter net n callers held suppliers sources shaped lt entered e s =
    subst (λ ls. All (λ (l : Link). IsAmong (length held) l.from) ls) (sym s) (sources_among net (length held) n shaped (ap length e ∙ entered.each) lt)

pub next_entered : (net : Network) (n len : ℕ) (callers held new rest : List (List Caller)) (suppliers more : List (List Supplier)) (sources : List Link) (row : List Supplier) → misshapen_node net ≡ None → n < length net.nodes →
    AreEntered net.nodes n callers suppliers → held ≡ callers → length held ≡ len → sources ≡ (node_at net.nodes n).sources →
    new ≡ with_callers n 0 sources held → row ≡ suppliers_among n 0 sources held → more ≡ suppliers ++ row ∷ [] →
    AreEntered net.nodes (n + 1) (take len (new ++ rest)) more
next_entered net n len callers held new rest suppliers more sources row shaped lt entered e l s f g h =
    one_more net n callers (take len (new ++ rest)) suppliers more row shaped lt entered
    (whole len new rest (sym l ∙ sym (ap length f ∙ length-all_entered n 0 sources held)) ∙ f ∙ (λ j. with_callers n 0 (s j) (e j)))
    (g ∙ (λ j. suppliers_among n 0 (s j) (e j)))
    h

-- ---- nodes from node i on don't order from it
not_from : (n i j : ℕ) (from : Option ℕ) → i ≤ j → is_later n j from ≡ true → is_from i from ≡ false
not_from n i j None le later = refl
not_from n i j (Some k) le later = differ k i (λ e. let a = ltb-true j k (both (nat_lt j k) (nat_lt k n) later).0 in omega arith)

no_caller_in : (n i j s : ℕ) (ls : List Link) → i ≤ j → list_all (λ (l : Link). is_later n j l.from) ls ≡ true → callers_in i j s ls ≡ []
no_caller_in n i j s [] le later = refl
no_caller_in n i j s (l ∷ ls) le later =
    let parts : (is_later n j l.from ≡ true) × (list_all (λ (m : Link). is_later n j m.from) ls ≡ true) = both (is_later n j l.from) (list_all (λ (m : Link). is_later n j m.from) ls) later in
    ap (λ b. cond b (record { node = j; source = s } ∷ callers_in i j (suc s) ls) (callers_in i j (suc s) ls)) (not_from n i j l.from le parts.0) ∙ no_caller_in n i j (suc s) ls le parts.1

callers_stay : (net : Network) → misshapen_node net ≡ None → (i m : ℕ) → i + m ≤ length net.nodes → callers_upto net.nodes i (i + m) ≡ callers_upto net.nodes i i
callers_stay net shaped i zero le = ap (callers_upto net.nodes i) (add-zero i)
callers_stay net shaped i (suc m) le =
    let e : i + suc m ≡ suc (i + m) = omega arith in
    let shape : IsShapedNode net.nodes (i + m) = parts_shaped net.nodes (i + m) (shaped_at net shaped (i + m) (omega arith)) in
    ap (callers_upto net.nodes i) e
    ∙ ap (λ cs. callers_upto net.nodes i (i + m) ++ cs) (no_caller_in (length net.nodes) i (i + m) 0 (node_at net.nodes (i + m)).sources (omega arith) shape.later)
    ∙ append-nil (callers_upto net.nodes i (i + m))
    ∙ callers_stay net shaped i m (omega arith)

callers_end : (net : Network) → misshapen_node net ≡ None → (i : ℕ) → i < length net.nodes → callers_upto net.nodes i (length net.nodes) ≡ callers_upto net.nodes i i
callers_end net shaped i lt =
    let e : length net.nodes ≡ i + (length net.nodes - i) = omega arith in
    ap (callers_upto net.nodes i) e ∙ callers_stay net shaped i (length net.nodes - i) (omega arith)

length-suppliers : (nodes : List NodeSpec) (n : ℕ) → length (suppliers_upto nodes n) ≡ n
length-suppliers nodes zero = refl
length-suppliers nodes (suc n) = let a = length-suppliers nodes n in omega (arith, length-append (suppliers_upto nodes n) (suppliers_of nodes n ∷ []))

get-last : {X : Type 0} (xs : List X) (x d : X) → get_or (xs ++ x ∷ []) (length xs) d ≡ x
get-last [] x d = refl
get-last (y ∷ xs) x d = get-last xs x d

get-earlier : {X : Type 0} (xs : List X) (x d : X) (i : ℕ) → i < length xs → get_or (xs ++ x ∷ []) i d ≡ get_or xs i d
get-earlier [] x d i lt = absurd (omega arith)
get-earlier (y ∷ xs) x d zero lt = refl
get-earlier (y ∷ xs) x d (suc i) lt = get-earlier xs x d i (omega arith)

suppliers_at : (nodes : List NodeSpec) (n i : ℕ) → i < n → get_or (suppliers_upto nodes n) i [] ≡ suppliers_of nodes i
suppliers_at nodes zero i lt = absurd (omega arith)
suppliers_at nodes (suc n) i lt = by (cases_lt i n) (λ less. suppliers_at nodes n i less)
  where
    by : (i < n) ⊎ (n ≤ i) → (i < n → get_or (suppliers_upto nodes n) i [] ≡ suppliers_of nodes i) → get_or (suppliers_upto nodes (suc n)) i [] ≡ suppliers_of nodes i
    by (inl less) earlier = get-earlier (suppliers_upto nodes n) (suppliers_of nodes n) [] i (let a = length-suppliers nodes n in omega arith) ∙ earlier less
    by (inr same) earlier =
        let e : i ≡ length (suppliers_upto nodes n) = let a = length-suppliers nodes n in omega arith in
        let f : n ≡ i = omega arith in
        ap (λ k. get_or (suppliers_upto nodes (suc n)) k []) e ∙ get-last (suppliers_upto nodes n) (suppliers_of nodes n) [] ∙ ap (suppliers_of nodes) f

pub all_wired : (net : Network) (n : ℕ) (callers : List (List Caller)) (suppliers : List (List Supplier)) → misshapen_node net ≡ None → n ≡ length net.nodes →
    AreEntered net.nodes n callers suppliers → IsWiring net.nodes callers suppliers
all_wired net n callers suppliers shaped e entered = record {
  callers_each = entered.each;
  suppliers_each = ap length entered.suppliers_are ∙ length-suppliers net.nodes n ∙ e;
  callers_of = λ i lt. are_callers net.nodes i (callers_of callers i) (entered.callers_are i ∙ ap (callers_upto net.nodes i) e ∙ callers_end net shaped i lt);
  suppliers_of_each = λ i lt. are_suppliers net.nodes i (get_or suppliers i []) (ap (λ rows. get_or rows i []) entered.suppliers_are ∙ suppliers_at net.nodes n i (omega arith));
}
