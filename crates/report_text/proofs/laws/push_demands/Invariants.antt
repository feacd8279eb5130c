use Rattle.std.proofs.Common.{◌≡◌, ◌++◌, slice_index}
use Rattle.std.specs.List.{flat_map, range_with_len}
use Rattle.report_text.specs.Laws.{demand_line}
use Rattle.report_text.proofs.laws.push_demands.Given as goal

abbrev pub invariant-loop-demand : goal.invariant-loop-demand
invariant-loop-demand l = l.out ≡ l.initial.out ++ flat_map (λ d. demand_line d (slice_index l.weights d)) (range_with_len 0 l.demand)
