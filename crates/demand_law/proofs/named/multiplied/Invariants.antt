use Rattle.std.proofs.Common.{◌≡◌, ◌*◌, map, take}
use Rattle.demand_law.proofs.named.multiplied.Given as goal

abbrev pub invariant-loop-weight : goal.invariant-loop-weight
invariant-loop-weight l = l.products.items ≡ map (λ w. w * l.factor) (take l.weight-index l.weights)
