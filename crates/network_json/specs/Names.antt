-- Names of nodes, and the places that they stand for.
use Rattle.std.specs.Prelude.{ℕ, zero, suc, List, [], length, map, codes, if◌then◌else◌, Option, Some, None, option_and_then, unwrap_or, Result, Ok, Err}
use Rattle.std.specs.Str.{bytes_eq}
use Rattle.std.proofs.Common.{get_or}
use Rattle.serde_json.specs.Data.{Data}
use Rattle.serde_json.specs.Find.{get, as_str}
use Rattle.network_model.specs.Nodes.{outside}
use Rattle.json_forms.specs.declared.fault.FieldFault.{FieldFault}
use Rattle.json_forms.specs.declared.fault.FieldFault.TheVariants.{OutOfRange}
use Rattle.json_forms.specs.NodeNames.{Name, text_in}
use Rattle.json_forms.specs.Steps.{◌>>=◌}

-- the last place below n that has the name
abbrev pub place_below : List Name → Name → ℕ → Option ℕ
place_below names name zero = None
place_below names name (suc n) = if bytes_eq name (get_or names n []) then Some n else place_below names name n

-- the last place of a name, from 0
abbrev pub place_of : List Name → Name → Option ℕ
place_of names name = place_below names name (length names)

-- the name under the key of an object, or an empty one
abbrev pub name_under : Data → Name
name_under d = unwrap_or (option_and_then as_str (get (codes "name") d)) []

abbrev pub names_in : List Data → List Name
names_in ds = map name_under ds

abbrev pub place_or_fault : Option ℕ → Result ℕ FieldFault
place_or_fault None = Err OutOfRange
place_or_fault (Some place) = Ok place

-- the place of the node that a text names
abbrev pub node_in : List Name → Data → Result ℕ FieldFault
node_in names d = text_in d >>= λ name. place_or_fault (place_of names name)

-- what a source names: the outside, a node, or what is no node, which stands past the last one
abbrev pub supplier : List Name → Name → Option ℕ
supplier names name = if bytes_eq name outside then None else Some (unwrap_or (place_of names name) (length names))
