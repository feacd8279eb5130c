use Rattle.std.proofs.Common.{◌≡◌}
use Rattle.trial_instances.proofs.PointLaws.{points}
use Rattle.trial_instances.proofs.laws.drawn_law.Given as goal

abbrev pub invariant-loop-demand : goal.invariant-loop-demand
invariant-loop-demand l = l.points.items ≡ points l.trial l.place l.most l.demand
