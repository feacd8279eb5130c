-- What the text of a kind's instances is.
use Rattle.std.specs.Prelude.{List, Result, ⊤}
use Rattle.serde_json.specs.Data.{Data}
use Rattle.json_forms.specs.declared.fault.InstanceFault.{InstanceFault}
use Rattle.json_forms.specs.Steps.{◌>>=◌}
use Rattle.json_forms.specs.Keys.{Row, has_keys}

pub record TextOf (A : Type 0) : Type 1 where
  -- the table of keys
  pub keys : List Row
  -- the values, key by key in the order of the table
  pub reading : Data → Result A InstanceFault
  -- each number in its range, each list with its length and shape
  pub readable : A → Type 0
  -- the first rule of the kind over several keys that is broken
  pub broken : A → Result ⊤ InstanceFault
  -- what these rules mean
  pub meets : A → Type 0
  -- what the type says
  pub typed : A → Type 0
  -- what is written
  pub written : A → Data

-- the keys of the kind, and then their values
unfoldable pub read_by : {A : Type 0} → TextOf A → Data → Result A InstanceFault
read_by text d = do
  _ ← has_keys text.keys d
  text.reading d
