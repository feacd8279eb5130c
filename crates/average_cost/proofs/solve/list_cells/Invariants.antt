use Rattle.std.proofs.Common.{◌≡◌, map, slice_index}
use Rattle.std.specs.List.{range_with_len}
use Rattle.average_cost.specs.Cells.{cell_at}
use Rattle.average_cost.proofs.solve.list_cells.Given as goal

abbrev pub invariant-loop-k : goal.invariant-loop-k
invariant-loop-k l = l.cells.items ≡ map (cell_at l.item (slice_index l.lower) (slice_index l.upper)) (range_with_len 0 l.k)
