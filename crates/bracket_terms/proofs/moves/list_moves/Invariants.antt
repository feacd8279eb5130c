use Rattle.std.proofs.Common.{◌≡◌, ℕ, take}
use Rattle.demand_law.specs.CountedSums.{counted}
use Rattle.bracket_terms.specs.Moves.{move_sum}
use Rattle.bracket_terms.proofs.moves.list_moves.Given as goal

abbrev pub invariant-loop-back : goal.invariant-loop-back
invariant-loop-back l = (f : ℕ → ℕ) → move_sum l.moves.items f ≡ counted (take l.back l.weights) f
