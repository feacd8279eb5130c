use Rattle.least_values.proofs.BlockLeasts.{AreTurned}
use Rattle.least_values.proofs.room.put_leasts.Given as goal

abbrev pub invariant-loop-slot : goal.invariant-loop-slot
invariant-loop-slot l = AreTurned l.fn.room l.room l.width l.slot
