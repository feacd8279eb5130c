-- The shape of a network: names that differ, sources that are listed later, and one path to each node of an echelon.
use Rattle.std.specs.Prelude.{ℕ, zero, suc, ◌+◌, ◌&&◌, ◌||◌, List, [], ◌∷◌, length, take, Bool, true, not, cond, ◌==◌, nat_le, nat_lt, Option, Some, None, option_map}
use Rattle.std.specs.List.{list_all, list_any}
use Rattle.std.specs.Str.{bytes_eq}
use Rattle.network_model.specs.declared.network.Network.{Network}
use Rattle.network_model.specs.declared.network.NodeSpec.{NodeSpec}
use Rattle.network_model.specs.declared.network.Link.{Link}
use Rattle.network_model.specs.Nodes.{node_at, is_from, is_echelon, first_failing, each_below}

-- no node before node k has its name
abbrev pub is_new_name : List NodeSpec → ℕ → Bool
is_new_name nodes k = not (list_any (λ (n : NodeSpec). bytes_eq n.name (node_at nodes k).name) (take k nodes))

-- outside, or a node listed after node k
abbrev pub is_later : ℕ → ℕ → Option ℕ → Bool
is_later n k None = true
is_later n k (Some m) = nat_lt k m && nat_lt m n

-- none of the sources is this node; outside may stand as often as it likes
abbrev pub is_none_from : Option ℕ → List Link → Bool
is_none_from None links = true
is_none_from (Some m) links = not (list_any (λ (l : Link). is_from m l.from) links)

-- no node stands twice among the sources
abbrev pub are_distinct : List Link → Bool
are_distinct [] = true
are_distinct (l ∷ ls) = is_none_from l.from ls && are_distinct ls

-- the paths over a source that is none past node k
abbrev pub paths_through : (ℕ → ℕ) → ℕ → Option ℕ → ℕ
paths_through paths k None = 0
paths_through paths k (Some m) = cond (nat_le m k) (paths m) 0

abbrev pub paths_over : (ℕ → ℕ) → ℕ → List Link → ℕ
paths_over paths k [] = 0
paths_over paths k (l ∷ ls) = paths_through paths k l.from + paths_over paths k ls

-- how many paths of at most so many links lead from node j to its sources, to theirs, and so on, up to node k
abbrev pub paths_within : ℕ → List NodeSpec → ℕ → ℕ → ℕ
paths_within zero nodes k j = cond (j == k) 1 0
paths_within (suc links) nodes k j = cond (j == k) 1 (paths_over (paths_within links nodes k) k (node_at nodes j).sources)

abbrev pub paths : List NodeSpec → ℕ → ℕ → ℕ
paths nodes k j = paths_within k nodes k j

-- whether node j is node k or is below it: units of node k come to it
abbrev pub is_below : List NodeSpec → ℕ → ℕ → Bool
is_below nodes k j = nat_lt 0 (paths nodes k j)

-- the rule of an echelon counts each node below it once
abbrev pub has_single_paths : List NodeSpec → ℕ → Bool
has_single_paths nodes k = not (is_echelon (node_at nodes k).rule) || each_below (λ j. nat_le (paths nodes k j) 1) k

abbrev pub is_shaped_at : List NodeSpec → ℕ → Bool
is_shaped_at nodes k =
    is_new_name nodes k
    && list_all (λ (l : Link). is_later (length nodes) k l.from) (node_at nodes k).sources
    && are_distinct (node_at nodes k).sources
    && has_single_paths nodes k

-- the first node, from 1, that breaks the shape
unfoldable pub misshapen_node : Network → Option ℕ
misshapen_node net = option_map suc (first_failing (is_shaped_at net.nodes) (length net.nodes))
