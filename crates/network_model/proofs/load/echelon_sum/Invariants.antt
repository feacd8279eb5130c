use Rattle.std.proofs.Common.{◌≡◌, ◌*◌, ◌≤◌}
use Rattle.network_model.specs.Load.{echelon_sum, own_load}
use Rattle.network_model.proofs.load.echelon_sum.Given as goal

abbrev pub invariant-loop-node : goal.invariant-loop-node
invariant-loop-node l = record {
  sum : l.sum ≡ echelon_sum l.network.nodes l.place (own_load l.network) l.node;
  small : l.sum ≤ l.node * 10001000000;
}
