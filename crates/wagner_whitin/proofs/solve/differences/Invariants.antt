use Rattle.std.proofs.Common.{◌≡◌, ◌+◌, ◌-◌, slice_index, map}
use Rattle.std.specs.List.{range_with_len}
use Rattle.wagner_whitin.proofs.solve.differences.Given as goal

abbrev pub invariant-loop-period : goal.invariant-loop-period
invariant-loop-period l = l.differences.items ≡ map (λ k. slice_index l.costs (k + 1) - slice_index l.costs k) (range_with_len 0 (l.period - 1))
