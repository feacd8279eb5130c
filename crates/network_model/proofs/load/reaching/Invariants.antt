use Rattle.std.proofs.Common.{◌≡◌, ◌+◌, ◌*◌, ◌≤◌, drop}
use Rattle.network_model.specs.Load.{reaching}
use Rattle.network_model.proofs.load.reaching.Given as goal

abbrev pub invariant-loop-node : goal.invariant-loop-node
invariant-loop-node l = record {
  rest : reaching l.place l.orders l.nodes ≡ l.total + reaching l.place (drop l.node l.orders) (drop l.node l.nodes);
  small : l.total ≤ l.node * 8000000000000;
}
