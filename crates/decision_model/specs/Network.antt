-- The network kind, whose ranges and rules stand in `network_model`.
use Rattle.std.specs.Prelude.{true, ⊤}
use Rattle.network_model.specs.declared.network.Network.{Network}
pub use Rattle.network_model.specs.Network.{IsReadableNetwork, is_drawn, is_seeded, IsValidNetwork}
use Rattle.decision_model.specs.declared.kinds.Kind.TheVariants as kind
use Rattle.decision_model.specs.Rules.{Rules}

-- a network has neither a grid nor a width number
abbrev pub network_rules : Network → Rules
network_rules net = record {
  kind = kind.Network;
  readable = IsReadableNetwork net;
  grid = ⊤;
  grid_test = true;
  width = ⊤;
  width_test = true;
  regular = IsValidNetwork net;
  valid = IsValidNetwork net;
}
