use Rattle.std.proofs.Common.{◌≡◌, slice_index, true, nat_le}
use Rattle.network_model.specs.Nodes.{each_below}
use Rattle.network_model.proofs.shape.are_single.Given as goal

abbrev pub invariant-loop-place : goal.invariant-loop-place
invariant-loop-place l = each_below (λ j. nat_le (slice_index l.counts j) 1) l.place ≡ true
