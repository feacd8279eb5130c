-- What is proved of the text of a network.
use Rattle.std.proofs.Common.{◌≡◌, Some, refl}
use Rattle.network_model.specs.declared.network.Network as network
use Rattle.decision_model.specs.declared.instance.Instance.TheVariants.{Network}
use Rattle.decision_model.specs.declared.kinds.Kind.TheVariants as kind
use Rattle.decision_model.specs.Kind.{kind_word}
use Rattle.network_json.specs.Network.{network_data}
use Rattle.network_json.proofs.BackNetwork.{keys_back, kind_there, network_back, rules_met, network_plain}
use Rattle.instance_json.specs.Network.{network_text}
use Rattle.instance_json.specs.Reads.{kind_in}
use Rattle.instance_json.proofs.Proven.{Proven, again}

said : (net : network.Network) → kind_in (network_data (kind_word kind.Network) net) ≡ Some kind.Network
said net = rw (kind_there (kind_word kind.Network) net) refl

pub network_proven : (net : network.Network) → Proven (Network net)
network_proven net = record {
  kind = said net;
  plain = network_plain (kind_word kind.Network) net;
  back = λ typed valid. again Network network_text net (keys_back (kind_word kind.Network) net) (network_back (kind_word kind.Network) net typed valid);
  regular = λ readable meets grid. record { readable = readable; seeded = meets.seeded; shaped = meets.shaped; apart = meets.apart; light = meets.light };
  valid = λ regular width. regular;
  readable = λ valid. valid.readable;
  met = λ valid. rules_met net valid;
  grid = λ valid. refl;
  width = λ valid. refl;
}
