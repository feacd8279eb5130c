use Rattle.fraction128.specs.Divisors.{AreCoprime}
use Rattle.decision_model.specs.Average.{average_positions}
use Rattle.average_lemmas.specs.CostLines.{IsTurn, measure}
use Rattle.average_cost.specs.Turns.{ratio_of}
use Rattle.average_cost.proofs.gain.find_gain.Given as goal

abbrev pub invariant-turns : goal.invariant-turns
invariant-turns l = record {
  turn : IsTurn l.item (average_positions l.item) (ratio_of l.g);
  lowest : AreCoprime l.g.num l.g.den;
}

abbrev pub decreases-turns : goal.decreases-turns
decreases-turns l = measure l.item (average_positions l.item) (ratio_of l.g)
