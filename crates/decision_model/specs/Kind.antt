-- The kind of an instance, its name, and the rules of its kind.
use Rattle.std.specs.Prelude.{ℕ, List, [], ◌∷◌, codes, Option, find}
use Rattle.std.specs.Str.{bytes_eq}
use Rattle.decision_model.specs.declared.instance.Instance.{Instance}
use Rattle.decision_model.specs.declared.instance.Instance.TheVariants.{News, Lots, Finite, Average, Serial, Network}
use Rattle.decision_model.specs.declared.kinds.Kind.{Kind}
use Rattle.decision_model.specs.declared.kinds.Kind.TheVariants as kind
use Rattle.decision_model.specs.Rules.{Rules}
use Rattle.decision_model.specs.News.{news_rules}
use Rattle.decision_model.specs.Lots.{lots_rules}
use Rattle.decision_model.specs.Finite.{finite_rules}
use Rattle.decision_model.specs.Average.{average_rules}
use Rattle.decision_model.specs.Serial.{serial_rules}
use Rattle.decision_model.specs.Network.{network_rules}

-- the one dispatch by kind
abbrev pub rules_of : Instance → Rules
rules_of (News newsvendor) = news_rules newsvendor
rules_of (Lots lots) = lots_rules lots
rules_of (Finite finite) = finite_rules finite
rules_of (Average average) = average_rules average
rules_of (Serial serial) = serial_rules serial
rules_of (Network net) = network_rules net

abbrev pub kind_of : Instance → Kind
kind_of instance = (rules_of instance).kind

-- the kind's name in instances, certificates and messages
abbrev pub kind_word : Kind → List ℕ
kind_word kind.News = codes "newsvendor"
kind_word kind.Lots = codes "lots"
kind_word kind.Finite = codes "finite"
kind_word kind.Average = codes "average"
kind_word kind.Serial = codes "serial"
kind_word kind.Network = codes "network"

abbrev pub all_kinds : List Kind
all_kinds = kind.News ∷ kind.Lots ∷ kind.Finite ∷ kind.Average ∷ kind.Serial ∷ kind.Network ∷ []

-- the kind of a name
abbrev pub kind_named : List ℕ → Option Kind
kind_named name = find (λ k. bytes_eq (kind_word k) name) all_kinds
