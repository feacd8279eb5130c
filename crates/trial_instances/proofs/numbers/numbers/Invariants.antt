use Rattle.std.proofs.Common.{◌≡◌}
use Rattle.trial_instances.specs.Numbers.{numbers}
use Rattle.trial_instances.proofs.numbers.numbers.Given as goal

abbrev pub invariant-loop-passed : goal.invariant-loop-passed
invariant-loop-passed l = l.amounts.items ≡ numbers l.trial l.place l.passed l.least l.most
