use Rattle.std.proofs.Common.{◌≡◌, ◌+◌, take}
use Rattle.demand_law.specs.Sequences.{laws_at, greatest_sum, IsSumOf}
use Rattle.demand_law.proofs.sums.sum_each.Given as goal

abbrev pub invariant-loop-place : goal.invariant-loop-place
invariant-loop-place l = (l.len ≡ greatest_sum (laws_at l.laws l.from l.place) + 1) × IsSumOf (take l.len l.sums) (laws_at l.laws l.from l.place)
