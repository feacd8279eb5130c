-- Nodes and pauses that were written are read back.
use Rattle.std.proofs.Common.{◌≡◌, ℕ, ◌≤◌, ℤ, ◌<ℤ◌, List, All, length, map, Bool, true, cond, Option, Some, Result, Ok, Err, refl, ap, ◌∙◌, arith, codes}
use Rattle.std.specs.Prelude.{int_lt}
use Rattle.serde_json.specs.Data.{Data, string, object}
use Rattle.serde_json.specs.Find.{get}
use Rattle.network_model.specs.Limits.{most_rate, most_initial, most_trace, most_network_lead, most_sources, most_lot, most_house_index, most_house_cap}
use Rattle.network_model.specs.declared.network.NodeSpec.{NodeSpec}
use Rattle.network_model.specs.declared.network.Link.{Link}
use Rattle.network_model.specs.declared.network.Rule.{Rule}
use Rattle.network_model.specs.declared.network.Rule.TheVariants.{Base, MinMax, Lot, Echelon, House}
use Rattle.network_model.specs.declared.network.Demand.{Demand}
use Rattle.network_model.specs.declared.network.Demand.TheVariants.{Nobody, Trace, Drawn}
use Rattle.network_model.specs.declared.network.Span.{Span}
use Rattle.network_model.specs.declared.network.Pause.{Pause}
use Rattle.network_model.specs.declared.network.Pause.TheVariants.{Orders, Shipments, Receipts}
use Rattle.model_terms.specs.Positions.{IsPosition}
use Rattle.network_model.specs.Nodes.{node_at, IsReadableRule, IsReadableLink, IsReadableDemand, IsReadableNode}
use Rattle.network_model.specs.Pauses.{IsReadableSpan}
use Rattle.json_forms.specs.declared.fault.FieldFault.{FieldFault}
use Rattle.json_forms.specs.declared.fault.FieldFault.TheVariants.{WrongType}
use Rattle.json_forms.specs.Steps.{◌>>=◌, each}
use Rattle.json_forms.specs.Numbers.{position_in, of_length_within}
use Rattle.json_forms.specs.LawTexts.{law_in}
use Rattle.json_forms.specs.Keys.{has_keys, optional}
use Rattle.json_forms.specs.Items.{is_object, item_of}
use Rattle.json_forms.specs.NodeNames.{node_name_in, name_data}
use Rattle.network_json.specs.Names.{name_under, node_in}
use Rattle.network_json.specs.Sources.{is_source, source_in, all_sources, sources_in}
use Rattle.network_json.specs.OrderRules.{rule_in}
use Rattle.network_json.specs.Nodes.{demand_in, node_keys, node_of}
use Rattle.network_json.specs.Pauses.{pause_in, span_keys, span_of}
use Rattle.json_forms.specs.WrittenValues.{amount_data, position_data, list_data, law_data}
use Rattle.json_forms.specs.Members.{listed}
use Rattle.network_json.specs.Network.{rule_data, link_data, trace_data, with_demand, node_members, node_data, pause_word, span_data}
use Rattle.json_forms.proofs.BackNumbers.{test_is, is_whole-amount, is_whole-position, amount_back, position_back, items_in-list, list_all-written, each_back, of_length_back, some_amounts_back}
use Rattle.json_forms.proofs.BackLaws.{law_back}
use Rattle.json_forms.proofs.BackKeys.{required_back, optional_back, required_amount, optional_amount}
use Rattle.json_forms.proofs.Texts.{name_text_is}
use Rattle.network_json.proofs.BackNames.{names_of, AreNamed, IsPlaceOf, node_name_back, node_back, supplier_back}

-- ---- sources
abbrev pub IsLinkOf : List NodeSpec → Link → Type 0
IsLinkOf nodes link = IsReadableLink link × IsPlaceOf nodes link.from

link_shaped : (nodes : List NodeSpec) (link : Link) → is_source (link_data nodes link) ≡ true
unfolding link_data
link_shaped nodes link = rw (is_whole-amount link.lead, is_whole-amount link.order_lead) refl

link_back : (nodes : List NodeSpec) → AreNamed nodes → (link : Link) → IsLinkOf nodes link → source_in (names_of nodes) (link_data nodes link) ≡ Ok link
unfolding link_data
link_back nodes are link is =
    let from = supplier_back nodes link.from are is.1 in
    let lead = amount_back 0 most_network_lead link.lead (omega arith) is.0.lead in
    let order_lead = amount_back 0 most_network_lead link.order_lead (omega arith) is.0.order_lead in
    rw (from, lead, order_lead) refl

pub sources_back : (nodes : List NodeSpec) → AreNamed nodes → (links : List Link) → All (IsLinkOf nodes) links → 1 ≤ length links → length links ≤ most_sources → sources_in (names_of nodes) (list_data (map (link_data nodes) links)) ≡ Ok links
sources_back nodes are links all some few =
    let ds = map (link_data nodes) links in
    ap (λ (o : Option (List Data)). all_sources o >>= λ shaped. each (source_in (names_of nodes)) shaped >>= of_length_within 1 most_sources) (items_in-list ds)
    ∙ ap (λ (b : Bool). cond b (Ok ds) (Err WrongType) >>= λ shaped. each (source_in (names_of nodes)) shaped >>= of_length_within 1 most_sources) (list_all-written is_source (link_data nodes) links (link_shaped nodes))
    ∙ ap (λ (r : Result (List Link) FieldFault). r >>= of_length_within 1 most_sources) (each_back (IsLinkOf nodes) (source_in (names_of nodes)) (link_data nodes) links (link_back nodes are) all)
    ∙ of_length_back 1 most_sources links some few

-- ---- rules
at_position : (z : ℤ) → IsPosition z → position_in (position_data z) ≡ Ok z
at_position z is = position_back z is.least is.most

int_lt_is : (a b : ℤ) → a <ℤ b → int_lt a b ≡ true
int_lt_is a b lt = test_is (int_lt a b) lt.lt

pub rule_back : (rule : Rule) → IsReadableRule rule → rule_in (rule_data rule) ≡ Ok rule
unfolding rule_data
rule_back (Base level) is = rw (at_position level is, is_whole-position level) refl
rule_back (MinMax low high) is = rw (at_position low is.0, at_position high is.1, is_whole-position low, is_whole-position high, int_lt_is low high is.2) refl
rule_back (Lot reorder lot) is = rw (at_position reorder is.0, amount_back 1 most_lot lot is.1 is.2, is_whole-position reorder, is_whole-amount lot) refl
rule_back (Echelon level) is = rw (at_position level is, is_whole-position level) refl
rule_back (House index cap) is = rw (amount_back 0 most_house_index index (omega arith) is.0, amount_back 0 most_house_cap cap (omega arith) is.1, is_whole-amount index, is_whole-amount cap) refl

-- ---- demand
trace_back : (periods : ℕ) (demands : List ℕ) → IsReadableDemand periods (Trace demands) → demand_in periods (trace_data demands) ≡ Ok (Trace demands)
unfolding trace_data
trace_back periods demands is = ap (λ (r : Result (List ℕ) FieldFault). r >>= λ ds. Ok (Trace ds)) (some_amounts_back most_trace periods periods demands is.1 (omega (arith, is.0)) (omega (arith, is.0)))

drawn_read : (periods : ℕ) (law : List ℕ) → demand_in periods (law_data law) ≡ (law_in (law_data law) >>= λ l. Ok (Drawn l))
unfolding law_data
drawn_read periods law = refl

abbrev node_written : List NodeSpec → NodeSpec → Demand → Data
node_written nodes node demand = object (listed (with_demand demand (node_members nodes node)))

pub demand_back : (periods : ℕ) (nodes : List NodeSpec) (node : NodeSpec) (demand : Demand) → IsReadableDemand periods demand → optional (demand_in periods) Nobody (codes "demand") (node_written nodes node demand) ≡ Ok demand
demand_back periods nodes node Nobody is = refl
demand_back periods nodes node (Trace demands) is = optional_back (demand_in periods) Nobody (codes "demand") (node_written nodes node (Trace demands)) (trace_data demands) (Trace demands) refl (trace_back periods demands is)
demand_back periods nodes node (Drawn law) is =
    optional_back (demand_in periods) Nobody (codes "demand") (node_written nodes node (Drawn law)) (law_data law) (Drawn law) refl
    (drawn_read periods law ∙ ap (λ (r : Result (List ℕ) FieldFault). r >>= λ l. Ok (Drawn l)) (law_back law is))

-- ---- nodes
-- what stands under each key, whether there is demand or not
record UnderNode (nodes : List NodeSpec) (node : NodeSpec) (d : Data) : Type 0 where
  name : get (codes "name") d ≡ Some (name_data node.name)
  initial : get (codes "initial") d ≡ Some (amount_data node.initial)
  holding : get (codes "holding") d ≡ Some (amount_data node.holding)
  stockout : get (codes "stockout") d ≡ Some (amount_data node.stockout)
  rule : get (codes "rule") d ≡ Some (rule_data node.rule)
  sources : get (codes "sources") d ≡ Some (list_data (map (link_data nodes) node.sources))
  keys : has_keys node_keys d ≡ Ok tt

under_node : (nodes : List NodeSpec) (node : NodeSpec) (demand : Demand) → UnderNode nodes node (node_written nodes node demand)
under_node nodes node Nobody = record { name = refl; initial = refl; holding = refl; stockout = refl; rule = refl; sources = refl; keys = refl }
under_node nodes node (Trace demands) = record { name = refl; initial = refl; holding = refl; stockout = refl; rule = refl; sources = refl; keys = refl }
under_node nodes node (Drawn law) = record { name = refl; initial = refl; holding = refl; stockout = refl; rule = refl; sources = refl; keys = refl }

node_is : (nodes : List NodeSpec) (node : NodeSpec) → node_data nodes node ≡ node_written nodes node node.demand
unfolding node_data
node_is nodes node = refl

pub node_object : (nodes : List NodeSpec) (node : NodeSpec) → is_object (node_data nodes node) ≡ true
unfolding node_data
node_object nodes node = refl

pub node_name : (nodes : List NodeSpec) (node : NodeSpec) (periods : ℕ) → IsReadableNode periods node → name_under (node_data nodes node) ≡ node.name
node_name nodes node periods is = ap name_under (node_is nodes node) ∙ rw ((under_node nodes node node.demand).name) (name_text_is node.name is.name)

abbrev pub IsNodeOf : List NodeSpec → ℕ → NodeSpec → Type 0
IsNodeOf nodes periods node = IsReadableNode periods node × All (IsLinkOf nodes) node.sources

values : (nodes : List NodeSpec) (periods : ℕ) → AreNamed nodes → (node : NodeSpec) → IsNodeOf nodes periods node → node_of periods (names_of nodes) (node_written nodes node node.demand) ≡ Ok node
unfolding node_of
values nodes periods are node is =
    let d = node_written nodes node node.demand in
    let here = under_node nodes node node.demand in
    let name = required_back node_name_in (codes "name") d (name_data node.name) node.name here.name (node_name_back node.name is.0.name) in
    let initial = required_amount 0 most_initial (codes "initial") d node.initial here.initial (omega arith) is.0.initial in
    let holding = required_amount 0 most_rate (codes "holding") d node.holding here.holding (omega arith) is.0.holding in
    let stockout = optional_amount most_rate (codes "stockout") d node.stockout here.stockout is.0.stockout in
    let rule = required_back rule_in (codes "rule") d (rule_data node.rule) node.rule here.rule (rule_back node.rule is.0.rule) in
    let sources = required_back (sources_in (names_of nodes)) (codes "sources") d (list_data (map (link_data nodes) node.sources)) node.sources here.sources (sources_back nodes are node.sources is.1 is.0.some_sources is.0.few_sources) in
    let demand = demand_back periods nodes node node.demand is.0.demand in
    rw (name, initial, holding, stockout, rule, sources, demand) refl

pub node_item_back : (nodes : List NodeSpec) (periods : ℕ) → AreNamed nodes → (node : NodeSpec) → IsNodeOf nodes periods node → item_of node_keys (node_of periods (names_of nodes)) (node_data nodes node) ≡ Ok node
node_item_back nodes periods are node is =
    ap (item_of node_keys (node_of periods (names_of nodes))) (node_is nodes node)
    ∙ rw ((under_node nodes node node.demand).keys) (values nodes periods are node is)

-- ---- pauses
pause_back : (what : Pause) → pause_in (string (pause_word what)) ≡ Ok what
pause_back Orders = refl
pause_back Shipments = refl
pause_back Receipts = refl

pub span_object : (nodes : List NodeSpec) (span : Span) → is_object (span_data nodes span) ≡ true
unfolding span_data
span_object nodes span = refl

record UnderSpan (nodes : List NodeSpec) (span : Span) (d : Data) : Type 0 where
  node : get (codes "node") d ≡ Some (name_data (node_at nodes span.node).name)
  what : get (codes "what") d ≡ Some (string (pause_word span.what))
  from : get (codes "from") d ≡ Some (amount_data span.from)
  to : get (codes "to") d ≡ Some (amount_data span.to)
  keys : has_keys span_keys d ≡ Ok tt

under_span : (nodes : List NodeSpec) (span : Span) → UnderSpan nodes span (span_data nodes span)
unfolding span_data
under_span nodes span = record { node = refl; what = refl; from = refl; to = refl; keys = refl }

span_values : (nodes : List NodeSpec) (periods : ℕ) → AreNamed nodes → (span : Span) → IsReadableSpan periods (length nodes) span → span_of periods (names_of nodes) (span_data nodes span) ≡ Ok span
unfolding span_of
span_values nodes periods are span is =
    let d = span_data nodes span in
    let here = under_span nodes span in
    let node = required_back (node_in (names_of nodes)) (codes "node") d (name_data (node_at nodes span.node).name) span.node here.node (node_back nodes span.node are is.node) in
    let what = required_back pause_in (codes "what") d (string (pause_word span.what)) span.what here.what (pause_back span.what) in
    let from = required_amount 1 periods (codes "from") d span.from here.from is.from_one (omega (arith, is.to, is.within)) in
    let to = required_amount span.from periods (codes "to") d span.to here.to is.to is.within in
    rw (node, what, from, to) refl

pub span_item_back : (nodes : List NodeSpec) (periods : ℕ) → AreNamed nodes → (span : Span) → IsReadableSpan periods (length nodes) span → item_of span_keys (span_of periods (names_of nodes)) (span_data nodes span) ≡ Ok span
span_item_back nodes periods are span is = rw ((under_span nodes span).keys) (span_values nodes periods are span is)
