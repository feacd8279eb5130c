use Rattle.std.proofs.Common.{◌≡◌, ◌+◌, ◌*◌, length, slice_index, take}
use Rattle.average_cost.specs.Moves.{listed_sum}
use Rattle.average_cost.proofs.moves.keep_line.Given as goal

abbrev pub invariant-loop-step : goal.invariant-loop-step
invariant-loop-step l = l.total ≡ l.below * l.power + l.first * l.power + listed_sum (slice_index l.entries) (length l.entries) (take l.step-index l.moves)
