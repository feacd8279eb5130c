-- Values that are texts, and names of nodes among them.
use Rattle.std.specs.Prelude.{ℕ, List, [], if◌then◌else◌, Option, Some, None, Result, Ok, Err}
use Rattle.std.specs.Str.{is_utf8}
use Rattle.serde_json.specs.Data.{Data, string}
use Rattle.serde_json.specs.Find.{as_str}
use Rattle.model_terms.specs.Names.{is_node_name}
use Rattle.json_forms.specs.declared.fault.FieldFault.{FieldFault}
use Rattle.json_forms.specs.declared.fault.FieldFault.TheVariants.{WrongType, OutOfRange}
use Rattle.json_forms.specs.Steps.{◌>>=◌}

abbrev pub Name : Type 0
Name = List ℕ

abbrev pub text_or_fault : Option Name → Result Name FieldFault
text_or_fault None = Err WrongType
text_or_fault (Some s) = Ok s

abbrev pub text_in : Data → Result Name FieldFault
text_in d = text_or_fault (as_str d)

-- the name of a node
abbrev pub node_name_in : Data → Result Name FieldFault
node_name_in d = text_in d >>= λ name. if is_node_name name then Ok name else Err OutOfRange

-- ---- what is written
-- a name as a text; bytes that are no text, as no valid network has them, as an empty one
abbrev pub name_text : Name → Name
name_text name = if is_utf8 name then name else []

abbrev pub name_data : Name → Data
name_data name = string (name_text name)
