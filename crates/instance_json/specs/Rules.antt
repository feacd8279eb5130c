-- The rules over several keys of an instance.
use Rattle.std.specs.Prelude.{Result, ⊤}
use Rattle.decision_model.specs.declared.instance.Instance.{Instance}
use Rattle.decision_model.specs.Valid.{grid_fits, width_fits}
use Rattle.json_forms.specs.declared.fault.InstanceFault.{InstanceFault}
use Rattle.json_forms.specs.declared.fault.InstanceFault.TheVariants.{Grid, Width}
use Rattle.json_forms.specs.Steps.{◌>>=◌, unless}
use Rattle.instance_json.specs.Kinds.{text_of}

-- the first rule that is broken: one of the kind, the size of the grid, the width of the exact numbers
unfoldable pub rules_of : Instance → Result ⊤ InstanceFault
rules_of instance = do
  _ ← (text_of instance).broken
  _ ← unless Grid (grid_fits instance)
  unless Width (width_fits instance)
