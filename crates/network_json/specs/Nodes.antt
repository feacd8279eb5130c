-- The nodes of a network in JSON values.
use Rattle.std.specs.Prelude.{ℕ, ◌&&◌, ◌==◌, List, [], ◌∷◌, codes, Bool, if◌then◌else◌, Option, Some, None, is_some, Result, Ok, Err}
use Rattle.serde_json.specs.Data.{Data}
use Rattle.serde_json.specs.Find.{get, as_object}
use Rattle.network_model.specs.declared.network.NodeSpec.{NodeSpec}
use Rattle.network_model.specs.declared.network.Demand.{Demand}
use Rattle.network_model.specs.declared.network.Demand.TheVariants.{Nobody, Trace, Drawn}
use Rattle.network_model.specs.Limits.{most_rate, most_initial, most_trace}
use Rattle.json_forms.specs.declared.fault.FieldFault.{FieldFault}
use Rattle.json_forms.specs.declared.fault.FieldFault.TheVariants.{WrongType}
use Rattle.json_forms.specs.declared.fault.InstanceFault.{InstanceFault}
use Rattle.json_forms.specs.Steps.{◌>>=◌}
use Rattle.json_forms.specs.Numbers.{amount_in, some_amounts_in}
use Rattle.json_forms.specs.LawTexts.{key_count, law_in}
use Rattle.json_forms.specs.Keys.{Row, needs, allows, required, optional}
use Rattle.json_forms.specs.NodeNames.{Name, node_name_in}
use Rattle.network_json.specs.Sources.{sources_in}
use Rattle.network_json.specs.OrderRules.{rule_in}

-- ---- demand
-- whether the only key is that of a listed demand
abbrev pub is_trace : Data → Bool
is_trace d = is_some (get (codes "trace") d) && (key_count (as_object d) == 1)

abbrev pub trace_under : ℕ → Option Data → Result Demand FieldFault
trace_under periods None = Err WrongType
trace_under periods (Some d) = some_amounts_in most_trace periods periods d >>= λ demands. Ok (Trace demands)

-- one demand a period, or a law
abbrev pub demand_in : ℕ → Data → Result Demand FieldFault
demand_in periods d =
    if is_trace d
    then trace_under periods (get (codes "trace") d)
    else (law_in d >>= λ law. Ok (Drawn law))

-- ---- nodes
abbrev pub node_keys : List Row
node_keys =
    needs (codes "name")
    ∷ needs (codes "initial")
    ∷ needs (codes "holding")
    ∷ allows (codes "stockout")
    ∷ needs (codes "rule")
    ∷ needs (codes "sources")
    ∷ allows (codes "demand")
    ∷ []

-- the values, key by key; the names are those of all nodes
unfoldable pub node_of : ℕ → List Name → Data → Result NodeSpec InstanceFault
node_of periods names d = do
  name ← required node_name_in (codes "name") d
  initial ← required (amount_in 0 most_initial) (codes "initial") d
  holding ← required (amount_in 0 most_rate) (codes "holding") d
  stockout ← optional (amount_in 0 most_rate) 0 (codes "stockout") d
  rule ← required rule_in (codes "rule") d
  sources ← required (sources_in names) (codes "sources") d
  demand ← optional (demand_in periods) Nobody (codes "demand") d
  Ok (record {
    name = name;
    initial = initial;
    holding = holding;
    stockout = stockout;
    rule = rule;
    sources = sources;
    demand = demand;
  })
