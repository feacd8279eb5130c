use Rattle.std.proofs.Common.{◌-◌}
use Rattle.average_cost.specs.Grids.{IsPlace}
use Rattle.average_cost.specs.Turns.{ratio_of, AreLines}
use Rattle.average_cost.proofs.gain.run_turn.Given as goal

abbrev pub invariant-loop-k : goal.invariant-loop-k
invariant-loop-k l = record {
  are_lines : AreLines l.item (ratio_of l.g) l.k l.lines;
  place_is : IsPlace l.item l.place (l.k - 1);
}
