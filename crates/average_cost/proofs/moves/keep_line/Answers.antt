use Rattle.std.proofs.Common.{◌+◌, length, slice_index, arith}
use Rattle.average_cost.specs.Moves.{move_at, listed_sum}
use Rattle.average_cost.proofs.MoveFacts.{listed_more, listed_front}
use Rattle.average_cost.proofs.moves.keep_line.Goals as goal

pub loop-step-init : goal.loop-step-init
unfolding listed_sum
loop-step-init c = omega (arith, c.add_product-total.ensures)

pub add_move-total-requires : goal.add_move-total-requires
add_move-total-requires c =
    omega (arith, c.requires, c.loop-step.invariant, listed_more (slice_index c.args.entries.now) (length c.args.entries.now) c.args.moves.now c.loop-step.step-index (move_at 0 0) c.loop-step-test.true, listed_front (slice_index c.args.entries.now) (length c.args.entries.now) c.args.moves.now (c.loop-step.step-index + 1))

pub loop-step-preserved : goal.loop-step-preserved
loop-step-preserved c =
    omega (arith, c.add_move-total.ensures, c.loop-step.invariant, listed_more (slice_index c.args.entries.now) (length c.args.entries.now) c.args.moves.now c.loop-step.step-index (move_at 0 0) c.loop-step-test.true)
