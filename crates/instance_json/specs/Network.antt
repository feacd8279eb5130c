-- The text of a network.
use Rattle.std.specs.Prelude.{◌≤◌, IfSome}
use Rattle.decision_model.specs.declared.kinds.Kind.TheVariants as kind
use Rattle.decision_model.specs.Kind.{kind_word}
use Rattle.network_model.specs.declared.network.Network.{Network}
use Rattle.decision_model.specs.Limits.{most_word}
use Rattle.decision_model.specs.Network.{IsReadableNetwork}
use Rattle.network_json.specs.Network.{network_keys, network_of, network_broken, MeetsNetworkRules, network_data}
use Rattle.instance_json.specs.KindText.{TextOf}

abbrev pub network_text : TextOf Network
network_text = record {
  keys = network_keys;
  reading = network_of;
  readable = IsReadableNetwork;
  broken = network_broken;
  meets = MeetsNetworkRules;
  typed = λ net. IfSome net.seed (λ seed. seed ≤ most_word);
  written = network_data (kind_word kind.Network);
}
