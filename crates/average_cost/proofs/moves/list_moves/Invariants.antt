use Rattle.std.proofs.Common.{◌≡◌, ◌^◌}
use Rattle.average_cost.specs.Moves.{moves_upto}
use Rattle.average_cost.proofs.moves.list_moves.Given as goal

abbrev pub invariant-loop-back : goal.invariant-loop-back
invariant-loop-back l = record {
  listed : l.moves.items ≡ moves_upto l.weights l.total l.back;
  power_is : l.power ≡ l.total ^ l.back;
}
