-- The pauses of a network in JSON values.
use Rattle.std.specs.Prelude.{ℕ, List, [], ◌∷◌, codes, if◌then◌else◌, Result, Ok, Err}
use Rattle.std.specs.Str.{bytes_eq}
use Rattle.serde_json.specs.Data.{Data}
use Rattle.network_model.specs.declared.network.Span.{Span}
use Rattle.network_model.specs.declared.network.Pause.{Pause}
use Rattle.network_model.specs.declared.network.Pause.TheVariants.{Orders, Shipments, Receipts}
use Rattle.json_forms.specs.declared.fault.FieldFault.{FieldFault}
use Rattle.json_forms.specs.declared.fault.FieldFault.TheVariants.{OutOfRange}
use Rattle.json_forms.specs.declared.fault.InstanceFault.{InstanceFault}
use Rattle.json_forms.specs.Steps.{◌>>=◌}
use Rattle.json_forms.specs.Numbers.{amount_in}
use Rattle.json_forms.specs.Keys.{Row, needs, required}
use Rattle.json_forms.specs.NodeNames.{Name, text_in}
use Rattle.network_json.specs.Names.{node_in}

abbrev pub pause_named : Name → Result Pause FieldFault
pause_named word =
    if bytes_eq word (codes "orders") then Ok Orders
    else (if bytes_eq word (codes "shipments") then Ok Shipments
    else (if bytes_eq word (codes "receipts") then Ok Receipts
    else Err OutOfRange))

-- what pauses, by its word
abbrev pub pause_in : Data → Result Pause FieldFault
pause_in d = text_in d >>= pause_named

abbrev pub span_keys : List Row
span_keys =
    needs (codes "node")
    ∷ needs (codes "what")
    ∷ needs (codes "from")
    ∷ needs (codes "to")
    ∷ []

-- the values, key by key
unfoldable pub span_of : ℕ → List Name → Data → Result Span InstanceFault
span_of periods names d = do
  node ← required (node_in names) (codes "node") d
  what ← required pause_in (codes "what") d
  from ← required (amount_in 1 periods) (codes "from") d
  to ← required (amount_in from periods) (codes "to") d
  Ok (record { node = node; what = what; from = from; to = to })
