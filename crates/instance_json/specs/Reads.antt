-- What bytes say: an instance, or the first fault.
use Rattle.std.specs.Prelude.{ℕ, List, codes, Option, Some, None, option_and_then, Result, Ok, Err}
use Rattle.serde_json.specs.Data.{Data}
use Rattle.serde_json.specs.Find.{get, as_str}
use Rattle.decision_model.specs.declared.kinds.Kind.{Kind}
use Rattle.decision_model.specs.declared.instance.Instance.{Instance}
use Rattle.decision_model.specs.Kind.{kind_named}
use Rattle.json_forms.specs.declared.fault.InstanceFault.{InstanceFault}
use Rattle.json_forms.specs.declared.fault.InstanceFault.TheVariants.{UnknownKind}
use Rattle.json_forms.specs.Steps.{◌>>=◌}
use Rattle.json_forms.specs.Values.{value_in}
use Rattle.instance_json.specs.Kinds.{of_kind}
use Rattle.instance_json.specs.Rules.{rules_of}

-- the kind that an object says
abbrev pub kind_in : Data → Option Kind
kind_in d = option_and_then kind_named (option_and_then as_str (get (codes "kind") d))

abbrev pub some_kind : Option Kind → Data → Result Instance InstanceFault
some_kind None d = Err UnknownKind
some_kind (Some kind) d = of_kind kind d

-- the instance that an object says, its rules over several keys aside
abbrev pub instance_in : Data → Result Instance InstanceFault
instance_in d = some_kind (kind_in d) d

-- the instance that bytes say, its rules over several keys aside
unfoldable pub fields_in : List ℕ → Result Instance InstanceFault
fields_in bytes = value_in bytes >>= instance_in

-- the instance that bytes say, or their first fault
unfoldable pub reads : List ℕ → Result Instance InstanceFault
reads bytes = do
  instance ← fields_in bytes
  _ ← rules_of instance
  Ok instance
