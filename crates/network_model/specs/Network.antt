-- Networks: ranges, and the rules over several nodes and pauses.
use Rattle.std.specs.Prelude.{◌≡◌, ◌≤◌, ◌||◌, length, Bool, true, false, not, None, is_some, All}
use Rattle.std.specs.List.{list_all}
use Rattle.network_model.specs.declared.network.Network.{Network}
use Rattle.network_model.specs.declared.network.NodeSpec.{NodeSpec}
use Rattle.network_model.specs.declared.network.Demand.{Demand}
use Rattle.network_model.specs.declared.network.Demand.TheVariants.{Nobody, Trace, Drawn}
use Rattle.network_model.specs.Limits.{most_network_periods, most_nodes, most_pauses}
use Rattle.network_model.specs.Nodes.{IsReadableNode}
use Rattle.network_model.specs.Pauses.{IsReadableSpan, overlapping_span}
use Rattle.network_model.specs.Shape.{misshapen_node}
use Rattle.network_model.specs.Load.{overloaded_node}

-- numbers in range, and lists with their lengths
pub record IsReadableNetwork (net : Network) : Type 0 where
  pub some_periods : 1 ≤ net.periods
  pub few_periods : net.periods ≤ most_network_periods
  pub some_nodes : 1 ≤ length net.nodes
  pub few_nodes : length net.nodes ≤ most_nodes
  pub nodes : All (IsReadableNode net.periods) net.nodes
  pub few_pauses : length net.pauses ≤ most_pauses
  pub pauses : All (IsReadableSpan net.periods (length net.nodes)) net.pauses

-- ---- draws of demand
abbrev pub is_drawn : Demand → Bool
is_drawn Nobody = false
is_drawn (Trace ds) = false
is_drawn (Drawn law) = true

-- where no demand is drawn, or a seed is there
abbrev pub is_seeded : Network → Bool
is_seeded net = list_all (λ (n : NodeSpec). not (is_drawn n.demand)) net.nodes || is_some net.seed

-- all rules
pub record IsValidNetwork (net : Network) : Type 0 where
  pub readable : IsReadableNetwork net
  pub seeded : is_seeded net ≡ true
  pub shaped : misshapen_node net ≡ None
  pub apart : overlapping_span net.pauses ≡ None
  pub light : overloaded_node net ≡ None
