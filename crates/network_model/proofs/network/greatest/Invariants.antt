use Rattle.std.proofs.Common.{◌≡◌, max, drop}
use Rattle.network_model.specs.Nodes.{greatest}
use Rattle.network_model.proofs.network.greatest.Given as goal

abbrev pub invariant-loop-demand : goal.invariant-loop-demand
invariant-loop-demand l = greatest l.demands ≡ max l.greatest (greatest (drop l.demand-index l.demands))
