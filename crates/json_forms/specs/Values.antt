-- The JSON value that bytes say.
use Rattle.std.specs.Prelude.{ℕ, List, if◌then◌else◌, Option, Some, None, Result, Ok, Err}
use Rattle.std.specs.Str.{is_utf8}
use Rattle.serde_json.specs.Data.{Data}
use Rattle.serde_json.specs.Read.{read}
use Rattle.json_forms.specs.declared.fault.InstanceFault.{InstanceFault}
use Rattle.json_forms.specs.declared.fault.InstanceFault.TheVariants.{NotJson}

-- the value of a text
abbrev pub value_or_fault : Option Data → Result Data InstanceFault
value_or_fault None = Err NotJson
value_or_fault (Some d) = Ok d

abbrev pub value_in : List ℕ → Result Data InstanceFault
value_in bytes = value_or_fault (if is_utf8 bytes then read bytes else None)
