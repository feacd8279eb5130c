-- What bytes say of an average cost on a wide range of positions: an instance, or the first fault.
use Rattle.std.specs.Prelude.{ℕ, ◌^◌, List, Bool, nat_le, Option, Some, Result, Ok, Err, ⊤}
use Rattle.serde_json.specs.Data.{Data}
use Rattle.decision_model.specs.declared.average.Average.{Average}
use Rattle.decision_model.specs.declared.kinds.Kind.{Kind}
use Rattle.decision_model.specs.declared.kinds.Kind.TheVariants as kind
use Rattle.decision_model.specs.Average.{average_positions}
use Rattle.decision_model.specs.Limits.{most_wide_positions, most_bits}
use Rattle.decision_model.specs.WideAverage.{wide_width}
use Rattle.json_forms.specs.declared.fault.InstanceFault.{InstanceFault}
use Rattle.json_forms.specs.declared.fault.InstanceFault.TheVariants.{UnknownKind, Grid, Width}
use Rattle.json_forms.specs.Steps.{◌>>=◌, unless}
use Rattle.json_forms.specs.Values.{value_in}
use Rattle.instance_json.specs.Average.{average_text}
use Rattle.instance_json.specs.KindText.{read_by}
use Rattle.instance_json.specs.Reads.{kind_in}

-- the average cost of an object of that kind, its rules over several keys aside
abbrev pub wide_kind : Option Kind → Data → Result Average InstanceFault
wide_kind (Some kind.Average) d = read_by average_text d
wide_kind _ d = Err UnknownKind

abbrev pub wide_in : Data → Result Average InstanceFault
wide_in d = wide_kind (kind_in d) d

-- the average cost that bytes say, its rules over several keys aside
unfoldable pub wide_fields : List ℕ → Result Average InstanceFault
wide_fields bytes = value_in bytes >>= wide_in

-- the grid and the width number are small enough
abbrev pub wide_grid_fits : Average → Bool
wide_grid_fits average = nat_le (average_positions average) most_wide_positions

abbrev pub wide_width_fits : Average → Bool
wide_width_fits average = nat_le (wide_width average) (2 ^ most_bits)

-- the first rule that is broken: one of the kind, the size of the wide grid, the width of the bracket's numbers
unfoldable pub wide_rules : Average → Result ⊤ InstanceFault
wide_rules average = do
  _ ← average_text.broken average
  _ ← unless Grid (wide_grid_fits average)
  unless Width (wide_width_fits average)

-- the average cost that bytes say, or their first fault
unfoldable pub reads_wide : List ℕ → Result Average InstanceFault
reads_wide bytes = do
  average ← wide_fields bytes
  _ ← wide_rules average
  Ok average
