-- A valid network that was written is read back.
use Rattle.std.proofs.Common.{◌≡◌, ℕ, suc, ◌<◌, ◌≤◌, List, [], ◌∷◌, ◌++◌, All, length, map, true, Option, Some, None, Ok, refl, arith, codes}
use Rattle.std.specs.Prelude.{IfSome, nat_lt}
use Rattle.std.specs.List.{list_all}
use Rattle.std.specs.Str.{bytes_eq}
use Rattle.std.proofs.lemmas.Bool.{ltb-true}
use Rattle.std.proofs.lemmas.List.Elements.{All-from_get_or, All-nil, All-cons}
use Rattle.serde_json.specs.Data.{Data, string, object}
use Rattle.serde_json.specs.Find.{get}
use Rattle.network_model.specs.declared.network.Network.{Network}
use Rattle.network_model.specs.declared.network.NodeSpec.{NodeSpec}
use Rattle.network_model.specs.declared.network.Link.{Link}
use Rattle.network_model.specs.declared.network.Rule.{Rule}
use Rattle.network_model.specs.declared.network.Rule.TheVariants.{Base, MinMax, Lot, Echelon, House}
use Rattle.network_model.specs.declared.network.Demand.{Demand}
use Rattle.network_model.specs.declared.network.Demand.TheVariants.{Nobody, Trace, Drawn}
use Rattle.network_model.specs.declared.network.Span.{Span}
use Rattle.network_model.specs.Limits.{most_network_periods, most_nodes, most_pauses, most_word}
use Rattle.network_model.specs.Nodes.{node_at, no_node, IsReadableNode}
use Rattle.network_model.specs.Shape.{is_later}
use Rattle.network_model.specs.Pauses.{IsReadableSpan}
use Rattle.network_model.specs.Network.{IsValidNetwork}
use Rattle.network_model.specs.NetworkFacts.{IsShapedNode, shaped_at, parts_shaped}
use Rattle.json_forms.specs.declared.fault.KeyList.TheVariants.{Nodes, Pauses}
use Rattle.json_forms.specs.Numbers.{amount_in}
use Rattle.json_forms.specs.Keys.{given, has_keys}
use Rattle.json_forms.specs.Items.{objects_in, item_of}
use Rattle.network_json.specs.Names.{names_in}
use Rattle.network_json.specs.Nodes.{node_keys, node_of}
use Rattle.network_json.specs.Pauses.{span_keys, span_of}
use Rattle.json_forms.specs.WrittenValues.{amount_data, list_data}
use Rattle.json_forms.specs.Members.{Named, listed, put_all}
use Rattle.network_json.specs.Network.{network_keys, network_of, network_broken, name_at, rule_members, rule_data, link_members, link_data, trace_members, trace_data, with_demand, node_members, node_data, pause_word, span_members, span_data, seed_members, network_to_periods, network_data}
use Rattle.json_forms.specs.NodeNames.{Name, name_text}
use Rattle.json_forms.proofs.BackNumbers.{amount_back}
use Rattle.json_forms.proofs.BackKeys.{given_back, required_back, optional_back, required_amount}
use Rattle.json_forms.proofs.Texts.{both, is_false}
use Rattle.network_json.proofs.BackNames.{names_of, AreNamed, IsPlaceOf, none_before}
use Rattle.json_forms.proofs.BackItems.{objects_back, items_back}
use Rattle.network_json.proofs.BackNodes.{IsNodeOf, node_object, node_name, node_item_back, span_object, span_item_back}
use Rattle.json_forms.proofs.Plain.{IsPlain, ArePlain, deeper, object_plain, list_plain, amount_plain, amounts_plain, position_plain, text_plain, law_plain}

-- ---- what a valid network is
shape_of : (net : Network) → IsValidNetwork net → (k : ℕ) → k < length net.nodes → IsShapedNode net.nodes k
shape_of net valid k lt = parts_shaped net.nodes k (shaped_at net valid.shaped k lt)

named : (net : Network) → IsValidNetwork net → AreNamed net.nodes
named net valid = record {
  named = λ k lt. (valid.readable.nodes k no_node lt).name;
  differ = λ j k less lt. none_before (λ (n : NodeSpec). bytes_eq n.name (node_at net.nodes k).name) net.nodes k j (is_false _ (shape_of net valid k lt).new_name) less (omega arith);
}

place_of_link : (net : Network) (k : ℕ) (from : Option ℕ) → is_later (length net.nodes) k from ≡ true → IsPlaceOf net.nodes from
place_of_link net k None later = tt
place_of_link net k (Some m) later = ltb-true m (length net.nodes) (both (nat_lt k m) (nat_lt m (length net.nodes)) later).1

links_placed : (net : Network) (k : ℕ) (links : List Link) → list_all (λ (l : Link). is_later (length net.nodes) k l.from) links ≡ true → All (λ (l : Link). IsPlaceOf net.nodes l.from) links
links_placed net k [] later = All-nil (λ (l : Link). IsPlaceOf net.nodes l.from)
links_placed net k (l ∷ ls) later =
    let parts = both (is_later (length net.nodes) k l.from) (list_all (λ (x : Link). is_later (length net.nodes) k x.from) ls) later in
    All-cons (λ (x : Link). IsPlaceOf net.nodes x.from) l ls (place_of_link net k l.from parts.0) (links_placed net k ls parts.1)

node_of_it : (net : Network) → IsValidNetwork net → (k : ℕ) → k < length net.nodes → IsNodeOf net.nodes net.periods (node_at net.nodes k)
node_of_it net valid k lt =
    let readable = valid.readable.nodes k no_node lt in
    let placed = links_placed net k (node_at net.nodes k).sources (shape_of net valid k lt).later in
    (readable, λ i d less. (readable.sources i d less, placed i d less))

nodes_of_it : (net : Network) → IsValidNetwork net → All (IsNodeOf net.nodes net.periods) net.nodes
nodes_of_it net valid = All-from_get_or (IsNodeOf net.nodes net.periods) net.nodes no_node (node_of_it net valid)

names_back : (nodes ns : List NodeSpec) (periods : ℕ) → All (IsReadableNode periods) ns → names_in (map (node_data nodes) ns) ≡ names_of ns
names_back nodes [] periods all = refl
names_back nodes (n ∷ ns) periods all = rw (node_name nodes n periods (all 0 n (omega arith)), names_back nodes ns periods (λ k d lt. all (suc k) d (omega arith))) refl

-- ---- what stands under each key
abbrev written : Name → Network → Option ℕ → Data
written word net seed = object (listed (network_to_periods word net ++ seed_members seed))

record Under (word : Name) (net : Network) (d : Data) : Type 0 where
  kind : get (codes "kind") d ≡ Some (string word)
  periods : get (codes "periods") d ≡ Some (amount_data net.periods)
  nodes : get (codes "nodes") d ≡ Some (list_data (map (node_data net.nodes) net.nodes))
  pauses : get (codes "pauses") d ≡ Some (list_data (map (span_data net.nodes) net.pauses))
  keys : has_keys network_keys d ≡ Ok tt

under_with : (word : Name) (net : Network) (seed : Option ℕ) → Under word net (written word net seed)
under_with word net None = record { kind = refl; periods = refl; nodes = refl; pauses = refl; keys = refl }
under_with word net (Some seed) = record { kind = refl; periods = refl; nodes = refl; pauses = refl; keys = refl }

under : (word : Name) (net : Network) → Under word net (network_data word net)
unfolding network_data
under word net = under_with word net net.seed

pub keys_back : (word : Name) (net : Network) → has_keys network_keys (network_data word net) ≡ Ok tt
keys_back word net = (under word net).keys

pub kind_there : (word : Name) (net : Network) → get (codes "kind") (network_data word net) ≡ Some (string word)
kind_there word net = (under word net).kind

abbrev IsWord : Option ℕ → Type 0
IsWord seed = IfSome seed (λ n. n ≤ most_word)

seed_in : (word : Name) (net : Network) (seed : Option ℕ) → IsWord seed → given (amount_in 0 most_word) (codes "seed") (written word net seed) ≡ Ok seed
seed_in word net None is = refl
seed_in word net (Some seed) is = given_back (amount_in 0 most_word) (codes "seed") (written word net (Some seed)) (amount_data seed) seed refl (amount_back 0 most_word seed (omega arith) is)

seed_back : (word : Name) (net : Network) → IsWord net.seed → given (amount_in 0 most_word) (codes "seed") (network_data word net) ≡ Ok net.seed
unfolding network_data
seed_back word net is = seed_in word net net.seed is

pub network_back : (word : Name) (net : Network) → IsWord net.seed → IsValidNetwork net → network_of (network_data word net) ≡ Ok net
unfolding network_of
network_back word net seed valid =
    let d = network_data word net in
    let here = under word net in
    let is = valid.readable in
    let are = named net valid in
    let node_items = map (node_data net.nodes) net.nodes in
    let pause_items = map (span_data net.nodes) net.pauses in
    let periods = required_amount 1 most_network_periods (codes "periods") d net.periods here.periods is.some_periods is.few_periods in
    let nodes_there = required_back (objects_in 1 most_nodes) (codes "nodes") d (list_data node_items) node_items here.nodes (objects_back 1 most_nodes (node_data net.nodes) net.nodes (node_object net.nodes) is.some_nodes is.few_nodes) in
    let names = names_back net.nodes net.nodes net.periods is.nodes in
    let nodes = items_back (IsNodeOf net.nodes net.periods) Nodes 1 (item_of node_keys (node_of net.periods (names_of net.nodes))) (node_data net.nodes) net.nodes (node_item_back net.nodes net.periods are) (nodes_of_it net valid) in
    let pauses_there = optional_back (objects_in 0 most_pauses) [] (codes "pauses") d (list_data pause_items) pause_items here.pauses (objects_back 0 most_pauses (span_data net.nodes) net.pauses (span_object net.nodes) (omega arith) is.few_pauses) in
    let pauses = items_back (IsReadableSpan net.periods (length net.nodes)) Pauses 1 (item_of span_keys (span_of net.periods (names_of net.nodes))) (span_data net.nodes) net.pauses (span_item_back net.nodes net.periods are) is.pauses in
    rw (periods, seed_back word net seed, nodes_there, names, nodes, pauses_there, pauses) refl

pub rules_met : (net : Network) → IsValidNetwork net → network_broken net ≡ Ok tt
unfolding network_broken
rules_met net valid = rw (valid.seeded, valid.shaped, valid.apart, valid.light) refl

-- ---- no float, and six levels at most
rule_plain : (rule : Rule) → IsPlain 2 (rule_data rule)
unfolding rule_data
rule_plain (Base level) = object_plain 1 (rule_members (Base level)) (position_plain 1 level, tt)
rule_plain (MinMax low high) = object_plain 1 (rule_members (MinMax low high)) (position_plain 1 high, (position_plain 1 low, tt))
rule_plain (Lot reorder lot) = object_plain 1 (rule_members (Lot reorder lot)) (amount_plain 1 lot, (position_plain 1 reorder, tt))
rule_plain (Echelon level) = object_plain 1 (rule_members (Echelon level)) (position_plain 1 level, tt)
rule_plain (House index cap) = object_plain 1 (rule_members (House index cap)) (amount_plain 1 cap, (amount_plain 1 index, tt))

link_plain : (nodes : List NodeSpec) (link : Link) → IsPlain 2 (link_data nodes link)
unfolding link_data
link_plain nodes link = object_plain 1 (link_members nodes link) (text_plain 1 (name_text (name_at nodes link.from)), (amount_plain 1 link.lead, (amount_plain 1 link.order_lead, tt)))

trace_plain : (demands : List ℕ) → IsPlain 3 (trace_data demands)
unfolding trace_data
trace_plain demands = object_plain 2 (trace_members demands) (amounts_plain 1 demands, tt)

demand_plain : (demand : Demand) (ms : List Named) → ArePlain 3 ms → ArePlain 3 (with_demand demand ms)
demand_plain Nobody ms plain = plain
demand_plain (Trace demands) ms plain = (trace_plain demands, plain)
demand_plain (Drawn law) ms plain = (law_plain law, plain)

node_plain : (nodes : List NodeSpec) (node : NodeSpec) → IsPlain 4 (node_data nodes node)
unfolding node_data
node_plain nodes node =
    object_plain 3 (with_demand node.demand (node_members nodes node))
    (demand_plain node.demand (node_members nodes node)
    (amount_plain 3 node.holding, (amount_plain 3 node.initial, (text_plain 3 (name_text node.name), (deeper 2 3 _ (omega arith) (rule_plain node.rule), (list_plain 2 (link_data nodes) node.sources (link_plain nodes), (amount_plain 3 node.stockout, tt)))))))

span_plain : (nodes : List NodeSpec) (span : Span) → IsPlain 4 (span_data nodes span)
unfolding span_data
span_plain nodes span = object_plain 3 (span_members nodes span) (amount_plain 3 span.from, (text_plain 3 (name_text (node_at nodes span.node).name), (amount_plain 3 span.to, (text_plain 3 (pause_word span.what), tt))))

seed_plain : (n : ℕ) (seed : Option ℕ) → ArePlain n (seed_members seed)
seed_plain n None = tt
seed_plain n (Some seed) = (amount_plain n seed, tt)

pub network_plain : (word : Name) (net : Network) → IsPlain 6 (network_data word net)
unfolding network_data
network_plain word net =
    object_plain 5 (network_to_periods word net ++ seed_members net.seed)
    (text_plain 5 word, (list_plain 4 (node_data net.nodes) net.nodes (node_plain net.nodes), (list_plain 4 (span_data net.nodes) net.pauses (span_plain net.nodes), (amount_plain 5 net.periods, seed_plain 5 net.seed))))

-- where draws begin, put among the other members
pub put_seed-listed : (word : Name) (net : Network) (seed : Option ℕ) → put_all (seed_members seed) (listed (network_to_periods word net)) ≡ listed (network_to_periods word net ++ seed_members seed)
put_seed-listed word net None = refl
put_seed-listed word net (Some seed) = refl

-- a demand, put among the other members
pub put_demand-listed : (nodes : List NodeSpec) (node : NodeSpec) (demand : Demand) → put_all (with_demand demand []) (listed (node_members nodes node)) ≡ listed (with_demand demand (node_members nodes node))
put_demand-listed nodes node Nobody = refl
put_demand-listed nodes node (Trace demands) = refl
put_demand-listed nodes node (Drawn law) = refl
