use Rattle.std.proofs.Common.{◌≡◌, None}
use Rattle.network_model.specs.Nodes.{first_failing}
use Rattle.network_model.specs.Shape.{is_shaped_at}
use Rattle.network_model.proofs.shape.misshapen_node.Given as goal

abbrev pub invariant-loop-place : goal.invariant-loop-place
invariant-loop-place l = first_failing (is_shaped_at l.network.nodes) l.place ≡ None
