-- The JSON text that an instance is written as.
use Rattle.std.specs.Prelude.{ℕ, List}
use Rattle.serde_json.specs.Data.{Data}
use Rattle.serde_json.specs.Written.{compact_text}
use Rattle.decision_model.specs.declared.instance.Instance.{Instance}
use Rattle.instance_json.specs.Kinds.{text_of}

abbrev pub instance_data : Instance → Data
instance_data instance = (text_of instance).written

-- the text of the data with no space
unfoldable pub instance_text : Instance → List ℕ
instance_text instance = compact_text (instance_data instance)
