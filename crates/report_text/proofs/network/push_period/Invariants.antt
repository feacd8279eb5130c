use Rattle.std.proofs.Common.{◌≡◌, ◌++◌, get_or}
use Rattle.std.specs.List.{flat_map, range_with_len}
use Rattle.decision_model.specs.Nodes.{node_at}
use Rattle.report_text.specs.Network.{node_line, no_line}
use Rattle.report_text.proofs.network.push_period.Given as goal

abbrev pub invariant-loop-place : goal.invariant-loop-place
invariant-loop-place l = l.out ≡ l.initial.out ++ flat_map (λ place. node_line l.period (node_at l.net.nodes place).name (get_or l.row.lines.items place no_line)) (range_with_len 0 l.place)
