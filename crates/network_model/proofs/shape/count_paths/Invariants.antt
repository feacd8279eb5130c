use Rattle.std.proofs.Common.{◌≡◌, ◌≤◌, length}
use Rattle.network_model.specs.Paths.{CountsPaths}
use Rattle.network_model.proofs.shape.count_paths.Given as goal

abbrev pub invariant-loop-node : goal.invariant-loop-node
invariant-loop-node l = record {
  length : length l.counts ≡ 64;
  within : l.node ≤ l.place;
  counted : CountsPaths l.nodes l.place l.counts l.node;
}
