use Rattle.std.proofs.Common.{◌≡◌, None}
use Rattle.network_model.specs.Nodes.{first_failing}
use Rattle.network_model.specs.Pauses.{is_apart_at}
use Rattle.network_model.proofs.pauses.overlapping_span.Given as goal

abbrev pub invariant-loop-place : goal.invariant-loop-place
invariant-loop-place l = first_failing (is_apart_at l.spans) l.place ≡ None
