use Rattle.std.proofs.Common.{◌≡◌, ◌+◌, ◌*◌, ◌≤◌, drop}
use Rattle.network_model.specs.Load.{claimed}
use Rattle.network_model.proofs.load.claimed.Given as goal

abbrev pub invariant-loop-source : goal.invariant-loop-source
invariant-loop-source l = record {
  rest : claimed l.place l.amount l.sources ≡ l.total + claimed l.place l.amount (drop l.source-index l.sources);
  small : l.total ≤ l.source-index * 1000000000000;
}
