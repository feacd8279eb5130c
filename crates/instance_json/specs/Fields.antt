-- Values of single keys: a policy.
use Rattle.std.specs.Prelude.{ℕ, List, codes, Bool, true, false, if◌then◌else◌, Option, Some, None, Result, Ok, Err}
use Rattle.std.specs.Str.{bytes_eq}
use Rattle.serde_json.specs.Data.{Data}
use Rattle.serde_json.specs.Find.{as_str}
use Rattle.json_forms.specs.declared.fault.FieldFault.{FieldFault}
use Rattle.json_forms.specs.declared.fault.FieldFault.TheVariants.{WrongType, OutOfRange}

abbrev pub policy_named : Option (List ℕ) → Result Bool FieldFault
policy_named None = Err WrongType
policy_named (Some s) = if bytes_eq s (codes "sS") then Ok false else (if bytes_eq s (codes "rQ") then Ok true else Err OutOfRange)

-- whether a policy is a reorder point with a lot
abbrev pub policy_in : Data → Result Bool FieldFault
policy_in d = policy_named (as_str d)
