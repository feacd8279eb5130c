-- The texts of all kinds: the dispatch by kind, for what is read and for what is written.
use Rattle.std.specs.Prelude.{Result, Ok, ⊤}
use Rattle.serde_json.specs.Data.{Data}
use Rattle.decision_model.specs.declared.kinds.Kind.{Kind}
use Rattle.decision_model.specs.declared.kinds.Kind.TheVariants as kind
use Rattle.decision_model.specs.declared.instance.Instance.{Instance}
use Rattle.decision_model.specs.declared.instance.Instance.TheVariants.{News, Lots, Finite, Average, Serial, Network}
use Rattle.json_forms.specs.declared.fault.InstanceFault.{InstanceFault}
use Rattle.json_forms.specs.Steps.{◌>>=◌}
use Rattle.instance_json.specs.KindText.{TextOf, read_by}
use Rattle.instance_json.specs.News.{news_text}
use Rattle.instance_json.specs.Lots.{lots_text}
use Rattle.instance_json.specs.Finite.{finite_text}
use Rattle.instance_json.specs.Average.{average_text}
use Rattle.instance_json.specs.Serial.{serial_text}
use Rattle.instance_json.specs.Network.{network_text}

abbrev pub read_as : {A : Type 0} → (A → Instance) → TextOf A → Data → Result Instance InstanceFault
read_as variant text d = read_by text d >>= λ a. Ok (variant a)

-- the instance of a kind that an object says, its rules over several keys aside
abbrev pub of_kind : Kind → Data → Result Instance InstanceFault
of_kind kind.News d = read_as News news_text d
of_kind kind.Lots d = read_as Lots lots_text d
of_kind kind.Finite d = read_as Finite finite_text d
of_kind kind.Average d = read_as Average average_text d
of_kind kind.Serial d = read_as Serial serial_text d
of_kind kind.Network d = read_as Network network_text d

-- what the text of its kind says of an instance
pub record TextAt : Type 1 where
  -- the first rule of the kind over several keys that is broken
  pub broken : Result ⊤ InstanceFault
  -- what these rules mean
  pub meets : Type 0
  -- what the type says
  pub typed : Type 0
  -- what is written
  pub written : Data

abbrev pub at : {A : Type 0} → TextOf A → A → TextAt
at text a = record { broken = text.broken a; meets = text.meets a; typed = text.typed a; written = text.written a }

abbrev pub text_of : Instance → TextAt
text_of (News news) = at news_text news
text_of (Lots lots) = at lots_text lots
text_of (Finite finite) = at finite_text finite
text_of (Average average) = at average_text average
text_of (Serial serial) = at serial_text serial
text_of (Network net) = at network_text net
