use Rattle.std.proofs.Common.{◌≡◌, ◌++◌, sum, take, drop, map}
use Rattle.std.specs.List.{range_with_len}
use Rattle.demand_law.specs.Law.{upto_of}
use Rattle.demand_law.proofs.law.add_up.Given as goal

abbrev pub invariant-loop-place : goal.invariant-loop-place
invariant-loop-place l = (l.sum ≡ sum (take l.place l.initial.weights)) × (l.weights ≡ map (upto_of l.initial.weights) (range_with_len 0 l.place) ++ drop l.place l.initial.weights)
