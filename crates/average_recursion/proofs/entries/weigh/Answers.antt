use Rattle.std.proofs.Common.{◌+◌, ◌*◌, length, slice_index, ap, arith}
use Rattle.average_recursion.specs.Entries.{entry_at, after}
use Rattle.average_recursion.proofs.Counts.{count_more, count_front}
use Rattle.average_recursion.proofs.entries.weigh.Goals as goal

pub add_weighed-sum-requires : goal.add_weighed-sum-requires
add_weighed-sum-requires c =
    let f = after (entry_at c.args.cells.now) c.args.below (length c.args.cells.now) in
    let i = c.loop-back.back-index in
    omega (arith, c.requires.fits, c.loop-back.invariant, count_more c.args.weights.now c.args.listed.now i f c.loop-back-test.true, count_front c.args.weights.now c.args.listed.now (i + 1) f, ap (λ z. slice_index c.args.weights.now (slice_index c.args.listed.now i) * z) c.after.ensures)

pub loop-back-preserved : goal.loop-back-preserved
loop-back-preserved c =
    let f = after (entry_at c.args.cells.now) c.args.below (length c.args.cells.now) in
    let i = c.loop-back.back-index in
    omega (arith, c.add_weighed-sum.ensures, c.loop-back.invariant, count_more c.args.weights.now c.args.listed.now i f c.loop-back-test.true, ap (λ z. slice_index c.args.weights.now (slice_index c.args.listed.now i) * z) c.after.ensures)
