use Rattle.std.proofs.Common.{◌≡◌, ◌+◌, All}
use Rattle.demand_law.specs.Law.{IsLaw}
use Rattle.demand_law.specs.Sequences.{laws_at, greatest_sum}
use Rattle.demand_law.proofs.sums.lead_width.Given as goal

abbrev pub invariant-loop-place : goal.invariant-loop-place
invariant-loop-place l = (l.width ≡ greatest_sum (laws_at l.laws l.from l.place) + 1) × All IsLaw (laws_at l.laws l.from l.place)
