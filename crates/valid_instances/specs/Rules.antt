-- The rules of a kind over several keys, beside those on a grid and on a width number.
use Rattle.std.specs.Prelude.{◌≡◌, true, None, IsTrue, ⊤}
use Rattle.decision_model.specs.declared.instance.Instance.{Instance}
use Rattle.decision_model.specs.declared.instance.Instance.TheVariants.{News, Lots, Finite, Average, Serial, Network}
use Rattle.decision_model.specs.declared.average.Average as average
use Rattle.network_model.specs.declared.network.Network as network
use Rattle.decision_model.specs.Lots.{HasNoSpeculation}
use Rattle.decision_model.specs.Average.{HasDemand, IsUnitDemand}
use Rattle.decision_model.specs.Network.{is_seeded}
use Rattle.decision_model.specs.Shape.{misshapen_node}
use Rattle.decision_model.specs.Pauses.{overlapping_span}
use Rattle.decision_model.specs.Load.{overloaded_node}

-- some demand is above 0, and none above 1 where lots are ordered
pub record KeepsAverageRules (instance : average.Average) : Type 0 where
  pub has_demand : HasDemand instance.law
  pub unit_demand : IsTrue instance.lots → IsUnitDemand instance.law

-- draws have a seed, nodes have their shape and a load that is small enough, and no two pauses of a node and kind overlap
pub record KeepsNetworkRules (net : network.Network) : Type 0 where
  pub seeded : is_seeded net ≡ true
  pub shaped : misshapen_node net ≡ None
  pub apart : overlapping_span net.pauses ≡ None
  pub light : overloaded_node net ≡ None

-- the rules of each kind
abbrev pub KeepsRules : Instance → Type 0
KeepsRules (News newsvendor) = ⊤
KeepsRules (Lots lots) = HasNoSpeculation lots
KeepsRules (Finite finite) = ⊤
KeepsRules (Average average) = KeepsAverageRules average
KeepsRules (Serial serial) = ⊤
KeepsRules (Network net) = KeepsNetworkRules net
