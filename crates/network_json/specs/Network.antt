-- The object of a network.
use Rattle.std.specs.Prelude.{◌≡◌, ℕ, List, [], ◌∷◌, ◌++◌, map, codes, true, Option, Some, None, Result, Ok, Err, ⊤}
use Rattle.serde_json.specs.Data.{Data, string, object}
use Rattle.network_model.specs.declared.network.Network.{Network}
use Rattle.network_model.specs.declared.network.NodeSpec.{NodeSpec}
use Rattle.network_model.specs.declared.network.Link.{Link}
use Rattle.network_model.specs.declared.network.Span.{Span}
use Rattle.network_model.specs.declared.network.Pause.{Pause}
use Rattle.network_model.specs.declared.network.Pause.TheVariants.{Orders, Shipments, Receipts}
use Rattle.network_model.specs.declared.network.Rule.{Rule}
use Rattle.network_model.specs.declared.network.Rule.TheVariants.{Base, MinMax, Lot, Echelon, House}
use Rattle.network_model.specs.declared.network.Demand.{Demand}
use Rattle.network_model.specs.declared.network.Demand.TheVariants.{Nobody, Trace, Drawn}
use Rattle.network_model.specs.Limits.{most_network_periods, most_nodes, most_pauses, most_word}
use Rattle.network_model.specs.Nodes.{outside, node_at}
use Rattle.network_model.specs.Shape.{misshapen_node}
use Rattle.network_model.specs.Pauses.{overlapping_span}
use Rattle.network_model.specs.Load.{overloaded_node}
use Rattle.network_model.specs.Network.{is_seeded}
use Rattle.json_forms.specs.declared.fault.KeyList.TheVariants.{Nodes, Pauses}
use Rattle.json_forms.specs.declared.fault.InstanceFault.{InstanceFault}
use Rattle.json_forms.specs.declared.fault.InstanceFault.TheVariants.{Missing, NetworkShape, Overlap, Load}
use Rattle.json_forms.specs.Faults.{top_key}
use Rattle.json_forms.specs.Steps.{◌>>=◌, unless}
use Rattle.json_forms.specs.Numbers.{amount_in}
use Rattle.json_forms.specs.Keys.{Row, needs, allows, required, given, optional}
use Rattle.json_forms.specs.Items.{objects_in, item_of, items_from}
use Rattle.json_forms.specs.NodeNames.{Name, name_data}
use Rattle.network_json.specs.Names.{names_in}
use Rattle.network_json.specs.Nodes.{node_keys, node_of}
use Rattle.network_json.specs.Pauses.{span_keys, span_of}
use Rattle.json_forms.specs.WrittenValues.{amount_data, position_data, list_data, amounts_data, law_data}
use Rattle.json_forms.specs.Members.{Named, listed}

abbrev pub network_keys : List Row
network_keys =
    allows (codes "kind")
    ∷ needs (codes "periods")
    ∷ allows (codes "seed")
    ∷ needs (codes "nodes")
    ∷ allows (codes "pauses")
    ∷ []

-- the values, key by key, and the items of a list where its key is reached
unfoldable pub network_of : Data → Result Network InstanceFault
network_of d = do
  periods ← required (amount_in 1 most_network_periods) (codes "periods") d
  seed ← given (amount_in 0 most_word) (codes "seed") d
  node_items ← required (objects_in 1 most_nodes) (codes "nodes") d
  nodes ← items_from Nodes 1 (item_of node_keys (node_of periods (names_in node_items))) node_items
  pause_items ← optional (objects_in 0 most_pauses) [] (codes "pauses") d
  pauses ← items_from Pauses 1 (item_of span_keys (span_of periods (names_in node_items))) pause_items
  Ok (record { periods = periods; seed = seed; nodes = nodes; pauses = pauses })

-- ---- rules over several keys
-- a fault, told of the first item that has it
abbrev pub unless_some : (ℕ → InstanceFault) → Option ℕ → Result ⊤ InstanceFault
unless_some fault None = Ok tt
unless_some fault (Some place) = Err (fault place)

unfoldable pub network_broken : Network → Result ⊤ InstanceFault
network_broken net = do
  _ ← unless (Missing (top_key (codes "seed"))) (is_seeded net)
  _ ← unless_some NetworkShape (misshapen_node net)
  _ ← unless_some Overlap (overlapping_span net.pauses)
  unless_some Load (overloaded_node net)

-- what the rules mean
pub record MeetsNetworkRules (net : Network) : Type 0 where
  pub seeded : is_seeded net ≡ true
  pub shaped : misshapen_node net ≡ None
  pub apart : overlapping_span net.pauses ≡ None
  pub light : overloaded_node net ≡ None

-- ---- what is written
-- the name of a node at a place, or of the outside
abbrev pub name_at : List NodeSpec → Option ℕ → Name
name_at nodes None = outside
name_at nodes (Some place) = (node_at nodes place).name

abbrev pub rule_members : Rule → List Named
rule_members (Base level) = (codes "base", position_data level) ∷ []
rule_members (MinMax low high) = (codes "max", position_data high) ∷ (codes "min", position_data low) ∷ []
rule_members (Lot reorder lot) = (codes "lot", amount_data lot) ∷ (codes "reorder", position_data reorder) ∷ []
rule_members (Echelon level) = (codes "echelon", position_data level) ∷ []
rule_members (House index cap) = (codes "cap", amount_data cap) ∷ (codes "house", amount_data index) ∷ []

unfoldable pub rule_data : Rule → Data
rule_data rule = object (listed (rule_members rule))

abbrev pub link_members : List NodeSpec → Link → List Named
link_members nodes link = (codes "from", name_data (name_at nodes link.from)) ∷ (codes "lead", amount_data link.lead) ∷ (codes "order_lead", amount_data link.order_lead) ∷ []

unfoldable pub link_data : List NodeSpec → Link → Data
link_data nodes link = object (listed (link_members nodes link))

abbrev pub trace_members : List ℕ → List Named
trace_members demands = (codes "trace", amounts_data demands) ∷ []

unfoldable pub trace_data : List ℕ → Data
trace_data demands = object (listed (trace_members demands))

-- a demand stands there only where there is one
abbrev pub with_demand : Demand → List Named → List Named
with_demand Nobody ms = ms
with_demand (Trace demands) ms = (codes "demand", trace_data demands) ∷ ms
with_demand (Drawn law) ms = (codes "demand", law_data law) ∷ ms

abbrev pub node_members : List NodeSpec → NodeSpec → List Named
node_members nodes node =
    (codes "holding", amount_data node.holding)
    ∷ (codes "initial", amount_data node.initial)
    ∷ (codes "name", name_data node.name)
    ∷ (codes "rule", rule_data node.rule)
    ∷ (codes "sources", list_data (map (link_data nodes) node.sources))
    ∷ (codes "stockout", amount_data node.stockout)
    ∷ []

unfoldable pub node_data : List NodeSpec → NodeSpec → Data
node_data nodes node = object (listed (with_demand node.demand (node_members nodes node)))

-- what pauses, as its word
abbrev pub pause_word : Pause → Name
pause_word Orders = codes "orders"
pause_word Shipments = codes "shipments"
pause_word Receipts = codes "receipts"

abbrev pub span_members : List NodeSpec → Span → List Named
span_members nodes span =
    (codes "from", amount_data span.from)
    ∷ (codes "node", name_data (node_at nodes span.node).name)
    ∷ (codes "to", amount_data span.to)
    ∷ (codes "what", string (pause_word span.what))
    ∷ []

unfoldable pub span_data : List NodeSpec → Span → Data
span_data nodes span = object (listed (span_members nodes span))

-- where draws begin stands there only where it is said
abbrev pub seed_members : Option ℕ → List Named
seed_members None = []
seed_members (Some seed) = (codes "seed", amount_data seed) ∷ []

-- `word` is that of its kind
abbrev pub network_to_periods : Name → Network → List Named
network_to_periods word net =
    (codes "kind", string word)
    ∷ (codes "nodes", list_data (map (node_data net.nodes) net.nodes))
    ∷ (codes "pauses", list_data (map (span_data net.nodes) net.pauses))
    ∷ (codes "periods", amount_data net.periods)
    ∷ []

unfoldable pub network_data : Name → Network → Data
network_data word net = object (listed (network_to_periods word net ++ seed_members net.seed))
