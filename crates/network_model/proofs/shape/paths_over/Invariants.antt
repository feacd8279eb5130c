use Rattle.std.proofs.Common.{◌≡◌, ◌+◌, ◌≤◌, min, slice_index, drop}
use Rattle.network_model.specs.Shape.{paths_over}
use Rattle.network_model.proofs.shape.paths_over.Given as goal

abbrev pub invariant-loop-source : goal.invariant-loop-source
invariant-loop-source l = record {
  few : l.total ≤ 2;
  rest : min 2 (paths_over (slice_index l.counts) l.place l.sources) ≡ min 2 (l.total + paths_over (slice_index l.counts) l.place (drop l.source-index l.sources));
}
