use Rattle.std.proofs.Common.{◌≡◌, ◌≤◌, ◌^◌}
use Rattle.demand_law.specs.Sequences.{laws_at, totals_of}
use Rattle.demand_law.proofs.sums.totals_fit.Given as goal

abbrev pub invariant-loop-place : goal.invariant-loop-place
invariant-loop-place l = (l.product ≡ totals_of (laws_at l.laws l.from l.place)) × (l.product ≤ 2 ^ 120)
