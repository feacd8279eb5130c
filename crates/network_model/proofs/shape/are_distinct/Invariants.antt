use Rattle.std.proofs.Common.{◌≡◌, drop}
use Rattle.network_model.specs.Shape.{are_distinct}
use Rattle.network_model.proofs.shape.are_distinct.Given as goal

abbrev pub invariant-loop-place : goal.invariant-loop-place
invariant-loop-place l = are_distinct l.sources ≡ are_distinct (drop l.place l.sources)
