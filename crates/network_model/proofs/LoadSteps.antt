-- Loads, node by node in listed order.
use Rattle.std.proofs.Common.{◌≡◌, ℕ, zero, suc, ◌+◌, ◌<◌, ◌≤◌, List, [], ◌∷◌, ◌++◌, length, get_or, set, take, All, nat_le, true, false, sym, ◌∙◌, ap, subst, arith, add-one}
use Rattle.std.proofs.Math.Seq.{take-suc-set}
use Rattle.std.proofs.lemmas.List.{get_or_default}
use Rattle.std.proofs.lemmas.List.Elements.{All-append}
use Rattle.std.proofs.lemmas.Bool.Decides.{nat_tests}
use Rattle.network_model.specs.declared.network.Network.{Network}
use Rattle.network_model.specs.declared.network.NodeSpec.{NodeSpec}
use Rattle.network_model.specs.Nodes.{node_at, no_node, top_of}
use Rattle.network_model.specs.Load.{need_by, echelon_sum, own_load, order_most, orders_most, order_limit, load}
use Rattle.network_model.specs.Network.{IsReadableNetwork}
use Rattle.network_model.specs.NetworkFacts.{node_readable, top_small}

-- a node as it is read
pub node_read : (net : Network) (nodes : List NodeSpec) (place : ℕ) (d : NodeSpec) → nodes ≡ net.nodes → place < length net.nodes → get_or nodes place d ≡ node_at net.nodes place
node_read net nodes place d same lt = ap (λ xs. get_or xs place d) same ∙ get_or_default net.nodes place d no_node lt

pub top_read : (net : Network) (nodes : List NodeSpec) (place : ℕ) (d : NodeSpec) → IsReadableNetwork net → nodes ≡ net.nodes → place < length net.nodes → top_of (get_or nodes place d).demand ≤ 10000
top_read net nodes place d readable same lt =
    let small : top_of (node_at net.nodes place).demand ≤ 10000 = top_small net.periods (node_at net.nodes place).demand (node_readable net readable place lt).demand in
    subst (λ (n : NodeSpec). top_of n.demand ≤ 10000) (sym (node_read net nodes place d same lt)) small

-- a node's limit on its orders and its load, from the limits of the earlier ones
pub limit_is : (net : Network) (k : ℕ) (earlier : List ℕ) (need order : ℕ) → earlier ≡ orders_most net k → need ≡ need_by net earlier k → order ≡ order_most (node_at net.nodes k).rule net.periods (need + (node_at net.nodes k).initial) (echelon_sum net.nodes k (own_load net) (suc k)) → order ≡ order_limit net k
limit_is net k earlier need order filled need_is order_is =
    order_is ∙ ap (λ n. order_most (node_at net.nodes k).rule net.periods (n + (node_at net.nodes k).initial) (echelon_sum net.nodes k (own_load net) (suc k))) (need_is ∙ ap (λ os. need_by net os k) filled)

pub load_is : (net : Network) (k : ℕ) (earlier : List ℕ) (initial need order : ℕ) → earlier ≡ orders_most net k → initial ≡ (node_at net.nodes k).initial → need ≡ need_by net earlier k → order ≡ order_limit net k → initial + need + order ≡ load net k
load_is net k earlier initial need order filled initial_is need_is order_is =
    ap (λ x. x + need + order) initial_is
    ∙ ap (λ x. (node_at net.nodes k).initial + x + order) (need_is ∙ ap (λ os. need_by net os k) filled)
    ∙ ap (λ x. (node_at net.nodes k).initial + need_by net (orders_most net k) k + x) order_is

-- one node more
pub orders_next : (net : Network) (k : ℕ) (xs : List ℕ) (x : ℕ) → k < length xs → take k xs ≡ orders_most net k → x ≡ order_limit net k → take (k + 1) (set xs k x) ≡ orders_most net (k + 1)
orders_next net k xs x lt filled is =
    rw add-one (take-suc-set xs k x lt ∙ ap (λ os. os ++ x ∷ []) filled ∙ ap (λ o. orders_most net k ++ o ∷ []) is)

one : (P : ℕ → Type 0) (x : ℕ) → P x → All P (x ∷ [])
one P x holds zero d lt = holds
one P x holds (suc k) d lt = absurd (omega arith)

pub light_next : (k most : ℕ) (xs : List ℕ) (x : ℕ) → k < length xs → All (λ o. o ≤ most) (take k xs) → x ≤ most → All (λ o. o ≤ most) (take (k + 1) (set xs k x))
light_next k most xs x lt light small =
    rw add-one (subst (All (λ o. o ≤ most)) (sym (take-suc-set xs k x lt)) (All-append (λ o. o ≤ most) (take k xs) (x ∷ []) light (one (λ o. o ≤ most) x small)))

pub is_light : (a most : ℕ) → a ≤ most → nat_le a most ≡ true
is_light a most le = grind (arith, nat_tests)

pub is_heavy : (a most : ℕ) → most < a → nat_le a most ≡ false
is_heavy a most lt = grind (arith, nat_tests)
