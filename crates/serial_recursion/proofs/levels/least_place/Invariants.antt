use Rattle.std.proofs.Common.{◌≡◌, ◌-◌, ◌<◌}
use Rattle.newsvendor.specs.Least.{first_least_upto}
use Rattle.serial_recursion.specs.Rows.{value_at}
use Rattle.serial_recursion.proofs.levels.least_place.Given as goal

abbrev pub invariant-loop-place : goal.invariant-loop-place
invariant-loop-place l = (l.least ≡ first_least_upto (value_at l.costs) (l.place - 1)) × (l.least < l.place)
