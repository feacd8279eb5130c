use Rattle.std.proofs.Common.{arith}
use Rattle.serial_recursion.proofs.Turns.{least_none, least_more, better_within}
use Rattle.serial_recursion.specs.Rows.{value_at}
use Rattle.serial_recursion.proofs.levels.least_place.Goals as goal

pub loop-place-init : goal.loop-place-init
loop-place-init c = (least_none (value_at c.args.costs.now), omega arith)

pub loop-place-preserved : goal.loop-place-preserved
loop-place-preserved c = (
  least_more (value_at c.args.costs.now) c.loop-place.place c.loop-place.least c.better-least.result c.loop-place.auto.place c.loop-place.invariant.0 c.better-least.ensures,
  better_within (value_at c.args.costs.now) c.loop-place.place c.loop-place.least c.better-least.result c.loop-place.invariant.1 c.better-least.ensures,
)
